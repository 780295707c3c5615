-- Each turn stores one byte more as a float.
use Prim.Native.Nat.{◌+◌}
use lib.Ieee.{nan}
use lib.ListN.{get_or}
use Rattle.picture.specs.Spans.{Run}
use Rattle.lanes.specs.Lanes.{widened}
use Rattle.lanes.proofs.widen.Given as goal

abbrev pub invariant-loop-i : goal.invariant-loop-i
invariant-loop-i l = Run nan l.initial.line l.line l.a l.i (λ j. widened (get_or l.src (l.s + j) 0))
