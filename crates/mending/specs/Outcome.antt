-- What the entry `mend` answers and leaves behind, for any input.
use Rattle.std.specs.Prelude.{Result, Ok, Err, List, [], ◌∷◌, ◌++◌, ℕ, ◌*◌, ltb, length}
use Rattle.picture.specs.Refusal.{number, Check, check, first_of, picture_checks}
use Rattle.picture.specs.declared.checks.Refusal.{Refusal}
use Rattle.picture.specs.Answer.{Answer, answered, settled}
use Rattle.pixels.specs.Channels.{exceeds_at}
use Rattle.counting.specs.Counts.{how_many}
use Rattle.mending.specs.Changes.{mended, changes_below, laid_entries}

-- what `mend` leaves: the lent picture and the lent list, and the count that it answers
pub record MendLeft : Type 0 where
  pub picture : List ℕ
  pub list : List (List ℕ)
  pub count : ℕ

abbrev pub mend_left : List ℕ → List (List ℕ) → ℕ → MendLeft
mend_left picture list count = record { picture = picture; list = list; count = count }

-- the number and the count of each case of the answer, with what is left; a refused count is 0
abbrev pub mend_answer : Result ℕ Refusal → List ℕ → List (List ℕ) → Answer MendLeft
mend_answer (Err r) picture list = answered (number r) (mend_left picture list 0)
mend_answer (Ok n) picture list = answered 0 (mend_left picture list n)

-- the count: how many pixels of the input fail the check
abbrev pub failing : List ℕ → ℕ → ℕ → ℕ
failing bytes w h = how_many (exceeds_at bytes) (w * h)

-- 17: the list has room for fewer entries than the count
abbrev pub room_checks : List ℕ → ℕ → ℕ → ℕ → List Check
room_checks p w h room = check 17 (ltb room (failing p w h)) ∷ []

-- Mend: 1, 2, 17; of the list's room
abbrev pub mend_checks : List ℕ → ℕ → ℕ → ℕ → List Check
mend_checks p w h room = picture_checks (length p) w h ++ room_checks p w h room

-- the picture mended, the changes first in the list, and their count
abbrev pub mend_done : List ℕ → ℕ → ℕ → List (List ℕ) → MendLeft
mend_done p w h list = mend_left (mended w h p) (laid_entries (changes_below p (w * h)) list) (failing p w h)

-- the first refusal; or mended
unfoldable pub mend_outcome : List ℕ → ℕ → ℕ → List (List ℕ) → Answer MendLeft
mend_outcome p w h list = settled (first_of (mend_checks p w h (length list))) (mend_left p list 0) (mend_done p w h list)
