-- The first bad recipe from i on is the first of all.
use Rattle.std.proofs.Common.{drop, ◌≡◌}
use Rattle.recipes.specs.Chain.{first_bad}
use Rattle.recipes.proofs.check_steps.Given as goal

abbrev pub invariant-loop-i : goal.invariant-loop-i
invariant-loop-i l = first_bad l.table l.i (drop l.i l.steps) ≡ first_bad l.table 0 l.steps
