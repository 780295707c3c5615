-- A recipe's own checks: 19 first, then those of its operation.
use Rattle.std.specs.Prelude.{Bool, not, cond, ◌||◌, ◌&&◌, List, [], ◌∷◌, ◌++◌, ℕ, ◌*◌, ◌/◌, min, ltb, leb, eqb, Float, length, take, drop, Result, Ok, Err}
use Rattle.picture.specs.Refusal.{Check, check, number, first_of, max_taps, wrong_taps, too_deep, wrong_edge, picture_checks}
use Rattle.binary32.specs.Ranges.{finite, any_outside}
use Rattle.shift.specs.Outcome.{wrong_offsets}
use Rattle.drop_shadow.specs.Outcome.{either_short, not_finite, wrong_colour}
use Rattle.drop_shadow.specs.declared.Recipe.{Recipe}
use Rattle.recipe_checks.specs.declared.Step.{Step}
use Rattle.picture.specs.declared.checks.Refusal.{Refusal}
use Rattle.recipe_checks.specs.declared.Stopped.{Stopped}

-- how many kernels a table of so many weights has: 33 weights a kernel; a shorter rest is none
unfoldable pub kernels : ℕ → ℕ
kernels weights = weights / max_taps

-- kernel k of a table, its first taps weights; what lies beyond them is never read
unfoldable pub kernel_of : List Float → ℕ → ℕ → List Float
kernel_of table k taps = take (min taps max_taps) (drop (max_taps * k) table)

-- a recipe's kernel
abbrev pub step_kernel : List Float → Step → List Float
step_kernel table step = kernel_of table step.kernel step.taps

-- 19: the operation is out of range or, but for a shift, the kernel index is; of the table's length
unfoldable pub unknown : ℕ → Step → Bool
unknown weights step = ltb 2 step.operation || (not (eqb step.operation 1) && leb (kernels weights) step.kernel)

-- what a shadow is cast by
abbrev pub recipe_of : Step → Recipe
recipe_of step =
    record { dx = step.dx; dy = step.dy; strength = step.strength; red = step.red; green = step.green; blue = step.blue; alpha = step.alpha }

-- checks 4, 5 and 6, of the kernel and n
abbrev pub kernel_own : List Float → Step → List Check
kernel_own table step = check 4 (wrong_taps step.taps) ∷ check 5 (any_outside (step_kernel table step)) ∷ check 6 (too_deep step.n) ∷ []

-- a blur's 7 and 9
abbrev pub blur_own : Step → List Check
blur_own step = check 7 (not (finite step.strength)) ∷ check 9 (wrong_edge step.edge) ∷ []

-- a shadow's 7, 8 and 9
abbrev pub shadow_own : Step → List Check
shadow_own step = check 7 (not_finite (recipe_of step)) ∷ check 8 (wrong_colour (recipe_of step)) ∷ check 9 (wrong_edge step.edge) ∷ []

-- a shift's 7
abbrev pub shift_own : Step → List Check
shift_own step = check 7 (wrong_offsets step.dx step.dy) ∷ []

-- the checks of the operation: 0 blurs, 1 shifts, 2 casts a shadow
abbrev pub operation_own : List Float → Step → List Check
operation_own table step =
    cond (eqb step.operation 1) (shift_own step) (kernel_own table step ++ cond (eqb step.operation 0) (blur_own step) (shadow_own step))

-- a recipe's own checks, 19 first
abbrev pub own_checks : List Float → Step → List Check
own_checks table step = check 19 (unknown (length table) step) ∷ operation_own table step

-- a recipe's own number: 0 where it is good
unfoldable pub own_number : List Float → Step → ℕ
own_number table step = first_of (own_checks table step)

-- 1 to 3, of the lent buffers' lengths: both work buffers, whatever the list holds
abbrev pub frame_checks : ℕ → ℕ → ℕ → ℕ → ℕ → List Check
frame_checks picture w h scratch copy = picture_checks picture w h ++ (check 3 (either_short scratch copy w h) ∷ [])

-- a number and an index: of a list's refusal and of the recipe whose own it is
pub record Chained : Type 0 where
  pub number : ℕ
  pub index : ℕ

abbrev pub found : ℕ → ℕ → Chained
found number index = record { number = number; index = index }

-- why a list is refused
abbrev pub stopped_at : Refusal → ℕ → Stopped
stopped_at refusal index = record { refusal = refusal; index = index }

-- the number and the index of an answer: 0 and 0 where nothing is refused
abbrev pub told : Result Unit Stopped → Chained
told (Ok x) = found 0 0
told (Err s) = found (number s.refusal) s.index
