-- Each turn adds a product to one sum more, which stands as it came in.
use Prim.Native.Nat.{◌+◌, ◌*◌}
use lib.ListN.{get_or}
use Rattle.picture.specs.Spans.{Run}
use Rattle.grid_sums.proofs.add_lanes.Given as goal

abbrev pub invariant-loop-i : goal.invariant-loop-i
invariant-loop-i l = Run 0 l.initial.acc l.acc 0 l.i (λ j. get_or l.initial.acc j 0 + get_or l.src (l.a + j) 0 * l.k)
