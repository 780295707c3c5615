-- The rows above row y have their columns set to zero, and the rest is as it was.
use mathlib.Core.Path.{◌≡◌}
use Prim.Native.Nat.{◌*◌}
use lib.ListN.{length}
use Rattle.picture.proofs.Walk.{done_below}
use Rattle.shift.proofs.Columns.{blank_columns}
use Rattle.shift.proofs.clear_each.Given as goal

abbrev pub invariant-loop-y : goal.invariant-loop-y
invariant-loop-y l = (length l.bytes ≡ length l.initial.bytes) × (l.bytes ≡ done_below l.initial.bytes (blank_columns l.w l.start l.n l.initial.bytes) (l.y * l.w))
