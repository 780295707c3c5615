-- Each turn lists one point more of the row.
use Prim.Native.Nat.{◌-◌}
use lib.ListN.{length}
use Rattle.points.proofs.Turns.{RowTurn}
use Rattle.points.proofs.write_row.Given as goal

abbrev pub invariant-loop-x : goal.invariant-loop-x
invariant-loop-x l = RowTurn l.xs l.w l.ys l.y l.initial.list l.list l.k l.x

abbrev pub decreases-loop-x : goal.decreases-loop-x
decreases-loop-x l = length l.xs - l.x
