-- Of the elements so far, every one from `end` on is 0.
use mathlib.Core.Path.{◌≡◌}
use Prim.Native.Nat.{ℕ, ◌≤◌, ◌<◌}
use lib.ListN.{get_or}
use Rattle.points.proofs.end_nonzero.Given as goal

abbrev pub invariant-loop-i : goal.invariant-loop-i
invariant-loop-i l = (l.end ≤ l.i) × ((k : ℕ) → l.end ≤ k → k < l.i → get_or l.row k 0 ≡ 0)
