-- After k turns the rows of these are moved; the rows that do not stay inside are then set to zero.
use Rattle.shift.specs.Bytes.{along}
use Rattle.shift.proofs.Rows.{Turned}
use Rattle.shift.proofs.move_rows.Given as goal

abbrev pub invariant-loop-k : goal.invariant-loop-k
invariant-loop-k l = Turned (along l.dx) l.dy l.w l.h l.initial.bytes l.k l.bytes
