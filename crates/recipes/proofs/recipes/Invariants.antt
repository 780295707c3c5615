-- Running the recipes from i on, from what the buffers hold so far, leaves what running all leaves.
use Rattle.std.proofs.Common.{drop, ◌≡◌}
use Rattle.picture.specs.Answer.{lent_copy}
use Rattle.recipes.specs.Chain.{all_ran}
use Rattle.recipes.proofs.recipes.Given as goal

abbrev pub invariant-loop-i : goal.invariant-loop-i
invariant-loop-i l =
    all_ran l.table l.w l.h (drop l.i l.steps) (lent_copy l.picture l.scratch l.copy) ≡
    all_ran l.table l.w l.h l.steps (lent_copy l.fn.picture l.fn.scratch l.fn.copy)
