-- A client's own words for the bytes of a row that has alpha alone.
use Rattle.std.specs.Prelude.{List, [], ◌∷◌, ℕ}

-- the pixels 0, 0, 0, a for each alpha
abbrev pub alphas : List ℕ → List ℕ
alphas [] = []
alphas (a ∷ more) = 0 ∷ 0 ∷ 0 ∷ a ∷ alphas more
