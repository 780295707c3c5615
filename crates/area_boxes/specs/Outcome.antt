-- What the entry `box_sum` answers, for any input.
use Rattle.std.specs.Prelude.{Bool, ◌||◌, Result, Ok, Err, List, [], ◌∷◌, ◌++◌, ℕ, ◌+◌, ◌*◌, ltb, length}
use Rattle.picture.specs.Refusal.{number, Check, check, first_of, zero_or_above}
use Rattle.picture.specs.declared.checks.Refusal.{Refusal}
use Rattle.picture.specs.Answer.{Answer, answered, settled}
use Rattle.area.specs.Area.{boxed, largest_box}
use Rattle.area.specs.Outcome.{table_checks}
use Rattle.area_boxes.specs.declared.boxes.AreaSum.{AreaSum}

-- 20: the box is empty or has more pixels than the largest, or a part of it lies outside the picture
unfoldable pub wrong_box : ℕ → ℕ → ℕ → ℕ → ℕ → ℕ → Bool
wrong_box w h x y wide high = zero_or_above largest_box (wide * high) || (ltb w (x + wide) || ltb h (y + high))

-- Box: 1, 3, 20; of the table's entries
abbrev pub box_checks : ℕ → ℕ → ℕ → ℕ → ℕ → ℕ → ℕ → List Check
box_checks entries w h x y wide high = table_checks entries w h ++ check 20 (wrong_box w h x y wide high) ∷ []

-- the number and the sum of each case of the answer; a refused sum is 0
abbrev pub box_answer : Result AreaSum Refusal → Answer ℕ
box_answer (Err r) = answered (number r) 0
box_answer (Ok s) = answered 0 s.alphas

-- the first refusal, and a sum of 0; or the box's sum
unfoldable pub box_outcome : List ℕ → ℕ → ℕ → ℕ → ℕ → ℕ → ℕ → Answer ℕ
box_outcome table w h x y wide high = settled (first_of (box_checks (length table) w h x y wide high)) 0 (boxed table w x y wide high)
