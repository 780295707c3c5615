-- Each turn adds a product to one sum more, which stands as it came in.
use Prim.Native.Nat.{◌+◌}
use lib.Ieee.{nan}
use lib.ListN.{get_or}
use Rattle.picture.specs.Spans.{Run}
use Rattle.lanes.specs.Lanes.{add_tap}
use Rattle.lanes.proofs.add_tap.Given as goal

abbrev pub invariant-loop-i : goal.invariant-loop-i
invariant-loop-i l = Run nan l.initial.acc l.acc 0 l.i (λ j. add_tap (get_or l.initial.acc j nan) (get_or l.line (l.a + j) nan) l.k)
