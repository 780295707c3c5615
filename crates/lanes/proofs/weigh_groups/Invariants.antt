-- Each turn makes one group more.
use mathlib.Core.Path.{◌≡◌}
use Prim.Native.Nat.{◌-◌, ◌≤◌}
use lib.ListN.{length}
use Rattle.picture.specs.Spans.{Span}
use Rattle.lanes.specs.Lanes.{lane_byte, group_room}
use Rattle.lanes.proofs.weigh_groups.Given as goal

abbrev pub invariant-loop-i : goal.invariant-loop-i
invariant-loop-i l = (l.first ≤ l.i) × (l.i ≤ l.n) × (length l.acc ≡ group_room) × Span 0 l.initial.dst l.dst l.o l.first l.i (lane_byte l.line l.a l.step l.weights)

abbrev pub decreases-loop-i : goal.decreases-loop-i
decreases-loop-i l = l.n - l.i
