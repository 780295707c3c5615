-- What the entry `list` answers and leaves behind, for any input.
use Rattle.std.specs.Prelude.{Result, Ok, Err, List, [], ◌∷◌, ◌++◌, ℕ, ◌*◌, ltb, length}
use Rattle.picture.specs.Modes.{mode_of}
use Rattle.picture.specs.Refusal.{number, Check, check, first_of}
use Rattle.picture.specs.declared.checks.Refusal.{Refusal}
use Rattle.picture.specs.Answer.{Answer, answered, settled}
use Rattle.mending.specs.Changes.{laid_entries}
use Rattle.share_laws.specs.Share.{share_at}
use Rattle.points.specs.Points.{points_below}
use Rattle.share_checks.specs.Checks.{place_outside, share_checks}

-- what `list` leaves: the lent list, and the count that it answers
pub record PointsLeft : Type 0 where
  pub list : List (List ℕ)
  pub count : ℕ

abbrev pub points_left : List (List ℕ) → ℕ → PointsLeft
points_left list count = record { list = list; count = count }

-- the number and the count of each case of the answer, with the list as it is left; a refused count is 0
abbrev pub list_answer : Result ℕ Refusal → List (List ℕ) → Answer PointsLeft
list_answer (Err r) list = answered (number r) (points_left list 0)
list_answer (Ok n) list = answered 0 (points_left list n)

-- the points of one output
abbrev pub points_of : ℕ → ℕ → List ℕ → ℕ → ℕ → ℕ → List (List ℕ)
points_of w h ms n edge out = points_below (share_at (mode_of edge) ms n w h out) (w * h)

-- 17: the list has room for fewer entries than there are points
abbrev pub full_checks : ℕ → List (List ℕ) → List Check
full_checks room points = check 17 (ltb room (length points)) ∷ []

-- List: 1, 4, 9, 21, 22 of the output's place, 14, 17; of the list's room
abbrev pub list_checks : ℕ → ℕ → List ℕ → ℕ → ℕ → ℕ → ℕ → List Check
list_checks w h ms n edge out room = share_checks w h ms n edge (place_outside w h out) ++ full_checks room (points_of w h ms n edge out)

-- the points first in the list, and how many they are
abbrev pub list_done : List (List ℕ) → List (List ℕ) → PointsLeft
list_done points list = points_left (laid_entries points list) (length points)

-- the first refusal; or listed
unfoldable pub list_outcome : ℕ → ℕ → List ℕ → ℕ → ℕ → ℕ → List (List ℕ) → Answer PointsLeft
list_outcome w h ms n edge out list =
    settled (first_of (list_checks w h ms n edge out (length list))) (points_left list 0) (list_done (points_of w h ms n edge out) list)
