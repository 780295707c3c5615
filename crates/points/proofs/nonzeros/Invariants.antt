-- The elements before the i-th that are not 0 are counted, and the i-th is not 0.
use mathlib.Core.Path.{◌≡◌}
use Prim.Native.Nat.{◌-◌, ◌≤◌, ◌<◌}
use lib.ListN.{length, get_or}
use Rattle.picture.specs.Buffers.{line_of}
use Rattle.points.specs.Points.{points_below}
use Rattle.points.proofs.nonzeros.Given as goal

abbrev pub invariant-loop-i : goal.invariant-loop-i
invariant-loop-i l = (l.i ≤ length l.row) × (l.i < length l.row → get_or l.row l.i 0 ≡ 0 → ⊥) × (l.count ≡ length (points_below (line_of l.row) l.i))

abbrev pub decreases-loop-i : goal.decreases-loop-i
decreases-loop-i l = length l.row - l.i
