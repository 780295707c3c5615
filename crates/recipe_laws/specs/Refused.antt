-- A list that is refused for one of its recipes has the number that the single call of its first bad recipe answers (request 10).
use Rattle.std.specs.Prelude.{◌≡◌, false, List, ℕ, ◌≤◌, ◌<◌, Float, length}
use Rattle.picture.specs.Answer.{LentCopy}
use Rattle.recipe_checks.specs.declared.Step.{Step}
use Rattle.recipe_checks.specs.Own.{Chained, unknown, own_number}
use Rattle.recipe_checks.specs.Single.{kernel_call, single_call}
use Rattle.recipes.specs.Chain.{step_at}
use Rattle.recipe_laws.specs.Calls.{ListCall}

-- a recipe that reads a kernel: 19 lets it through, and it is no shift
pub record ReadsKernel (table : List Float) (step : Step) : Type 0 where
  pub known : unknown (length table) step ≡ false
  pub no_shift : step.operation ≡ 1 → ⊥

-- buffers of these lengths
pub record Long (picture scratch copy : ℕ) (l : LentCopy) : Type 0 where
  pub picture_is : length l.picture ≡ picture
  pub scratch_is : length l.scratch ≡ scratch
  pub copy_is : length l.copy ≡ copy

-- of a list lent with buffers of these lengths that was refused with this number and index
pub record FirstRefused (table : List Float) (w h picture scratch copy : ℕ) (steps : List Step) (r : Chained) : Type 0 where
  -- the index is that of a recipe, and no recipe before it is bad
  pub within : r.index < length steps
  pub before : (j : ℕ) → j < r.index → own_number table (step_at steps j) ≡ 0
  -- its single call alone, on any buffers of these lengths, answers the number; where it reads a kernel, of no more taps than a kernel has
  pub alone : (ReadsKernel table (step_at steps r.index) → (step_at steps r.index).taps ≤ 33) → (l : LentCopy) → Long picture scratch copy l →
      (single_call table w h (step_at steps r.index) l).number ≡ r.number
  -- of more taps the number is 4, and so is that of the call with any weights of that many
  pub overlong : ReadsKernel table (step_at steps r.index) → 33 < (step_at steps r.index).taps →
      (r.number ≡ 4) × ((weights : List Float) → length weights ≡ (step_at steps r.index).taps → (l : LentCopy) → Long picture scratch copy l → (kernel_call weights w h (step_at steps r.index) l).number ≡ 4)

-- of a call: past 1, 2 and 3
abbrev pub FirstRefusedOnly : ListCall → Type 0
FirstRefusedOnly k =
    3 < k.answer.number → FirstRefused k.table k.w k.h (length k.before.picture) (length k.before.scratch) (length k.before.copy) k.steps k.answer
