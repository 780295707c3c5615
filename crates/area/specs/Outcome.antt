-- What the entry `build` answers and leaves behind, for any input; and the checks that every call on a table begins with.
use Rattle.std.specs.Prelude.{ℕ, ◌*◌, Bool, List, [], ◌∷◌, ◌++◌, length, nat_lt}
use Rattle.picture.specs.Planes.{laid}
use Rattle.picture.specs.Refusal.{Check, check, first_of, wrong_sides, picture_checks}
use Rattle.picture.specs.Answer.{Answer, settled}
use Rattle.area.specs.Area.{alpha_plane, built}

-- 3: the table has fewer than wh entries
unfoldable pub short_table : ℕ → ℕ → ℕ → Bool
short_table entries w h = nat_lt entries (w * h)

-- Build: 1, 2, 3; of the picture's bytes and the table's entries
abbrev pub build_checks : ℕ → ℕ → ℕ → ℕ → List Check
build_checks len w h entries = picture_checks len w h ++ check 3 (short_table entries w h) ∷ []

-- the first refusal; or the picture's table, and the rest of the lent one as it was
unfoldable pub build_outcome : List ℕ → ℕ → ℕ → List ℕ → Answer (List ℕ)
build_outcome p w h table = settled (first_of (build_checks (length p) w h (length table))) table (laid (built w h (alpha_plane p w)) table)

-- checks 1 and 3, which a call that is lent a table alone begins with
abbrev pub table_checks : ℕ → ℕ → ℕ → List Check
table_checks entries w h = check 1 (wrong_sides w h) ∷ check 3 (short_table entries w h) ∷ []
