-- What the entry `update` answers and leaves behind, for any input.
use Rattle.std.specs.Prelude.{ℕ, ◌*◌, ◌/◌, ◌%◌, Bool, List, [], ◌∷◌, ◌++◌, length, nat_le}
use Rattle.picture.specs.Refusal.{Check, check, first_of}
use Rattle.picture.specs.Answer.{Answer, settled}
use Rattle.area.specs.Area.{updated}
use Rattle.area.specs.Outcome.{table_checks}

-- 20: the place y·w + x lies outside the picture
unfoldable pub wrong_place : ℕ → ℕ → ℕ → Bool
wrong_place w h place = nat_le (w * h) place

-- Update: 1, 3, 20; of the table's entries
abbrev pub update_checks : ℕ → ℕ → ℕ → ℕ → List Check
update_checks entries w h place = table_checks entries w h ++ check 20 (wrong_place w h place) ∷ []

-- the first refusal; or the table after the change at that place
unfoldable pub update_outcome : List ℕ → ℕ → ℕ → ℕ → ℕ → ℕ → Answer (List ℕ)
update_outcome table w h place old new =
    settled (first_of (update_checks (length table) w h place)) table (updated table w h (place % w) (place / w) old new)
