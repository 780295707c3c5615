-- Each turn carries one output more back to the row.
use lib.ListN.{length}
use Rattle.back_passes.specs.Worth.{Gained}
use Rattle.back_passes.proofs.Carried.{carried_to}
use Rattle.back_passes.proofs.back.carry_pass.Given as goal

abbrev pub invariant-loop-x : goal.invariant-loop-x
invariant-loop-x l = Gained l.initial.row l.row (λ line. carried_to l.kind l.mode l.numerators (length l.initial.row) l.outputs line l.x)
