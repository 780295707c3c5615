-- Each turn lists the points of one row more, and skips the rows without any.
use mathlib.Core.Path.{◌≡◌}
use Prim.Native.Nat.{◌*◌, ◌-◌, ◌≤◌, ◌<◌}
use lib.ListN.{length, get_or}
use Rattle.mending.specs.Changes.{laid_entries}
use Rattle.points.specs.Points.{points_below, product_at}
use Rattle.points.proofs.write_rows.Given as goal

abbrev pub invariant-loop-y : goal.invariant-loop-y
invariant-loop-y l = (l.y ≤ length l.ys) × (l.y < length l.ys → get_or l.ys l.y 0 ≡ 0 → ⊥) × (l.k ≡ length (points_below (product_at l.w l.xs l.ys) (l.y * l.w))) ×
    (l.list ≡ laid_entries (points_below (product_at l.w l.xs l.ys) (l.y * l.w)) l.initial.list) × (length l.list ≡ length l.initial.list)

abbrev pub decreases-loop-y : goal.decreases-loop-y
decreases-loop-y l = length l.ys - l.y
