-- The single call that a recipe names, and what it makes of the three lent buffers.
use Rattle.std.specs.Prelude.{Bool, not, cond, List, ℕ, eqb, Float, length}
use Rattle.picture.specs.Modes.{mode_of}
use Rattle.picture.specs.Answer.{Answer, answered, Lent, LentCopy, lent_copy}
use Rattle.binary32.specs.Round.{whole_offset}
use Rattle.shift.specs.Shift.{shifted_picture}
use Rattle.shift.specs.Outcome.{shift_outcome}
use Rattle.gaussian_blur.specs.Outcome.{blurred_or_kept, blur_outcome}
use Rattle.drop_shadow.specs.Shadowed.{shadowed}
use Rattle.drop_shadow.specs.Outcome.{shadow_outcome}
use Rattle.recipe_checks.specs.declared.Step.{Step}
use Rattle.recipe_checks.specs.Own.{unknown, step_kernel, recipe_of}

-- whether the original is composited: any number but 0 says so
abbrev pub composited : Step → Bool
composited step = not (eqb step.composite 0)

-- what a blur and a shift answer, beside the buffers that they are not lent
abbrev pub beside_copy : Answer Lent → List ℕ → Answer LentCopy
beside_copy a c = answered a.number (lent_copy a.left.picture a.left.scratch c)

abbrev pub beside_both : Answer (List ℕ) → List ℕ → List ℕ → Answer LentCopy
beside_both a s c = answered a.number (lent_copy a.left s c)

-- the single call of a blur or a shadow, with these weights: the entry's own outcome
unfoldable pub kernel_call : List Float → ℕ → ℕ → Step → LentCopy → Answer LentCopy
kernel_call weights w h step l =
    cond (eqb step.operation 0)
    (beside_copy (blur_outcome l.picture w h l.scratch weights step.n step.strength step.edge) l.copy)
    (shadow_outcome l.picture w h l.scratch l.copy weights step.n step.edge (recipe_of step) (composited step))

-- the single call that a recipe names, with its own kernel: the entry's own outcome; 19 where it names none
unfoldable pub single_call : List Float → ℕ → ℕ → Step → LentCopy → Answer LentCopy
single_call table w h step l =
    cond (unknown (length table) step) (answered 19 l)
    (cond (eqb step.operation 1) (beside_both (shift_outcome l.picture w h step.dx step.dy) l.scratch l.copy)
    (kernel_call (step_kernel table step) w h step l))

-- the picture that a good recipe makes: blurred, moved, or with its shadow
unfoldable pub worked : List Float → ℕ → ℕ → Step → List ℕ → List ℕ
worked table w h step p =
    cond (eqb step.operation 1) (shifted_picture (whole_offset step.dx) (whole_offset step.dy) w h p)
    (cond (eqb step.operation 0) (blurred_or_kept (mode_of step.edge) (step_kernel table step) step.n step.strength w h p)
    (shadowed (mode_of step.edge) (step_kernel table step) step.n (recipe_of step) (composited step) w h p))
