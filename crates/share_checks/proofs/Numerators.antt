-- Numerators that the worked calls of `share` and `list` have.
use mathlib.Core.List.{List, [], ◌∷◌}
use Prim.Native.Nat.{ℕ}

-- a quarter, a half, a quarter; and one tap that is all
abbrev pub quarters : List ℕ
quarters = 16384 ∷ 32768 ∷ 16384 ∷ []

abbrev pub whole : List ℕ
whole = 65536 ∷ []
