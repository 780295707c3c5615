-- No count passes the number of lines, and no line is empty of bytes.
use Prim.Native.Nat.{◌+◌, ◌≤◌, ◌-◌}
use lib.ListN.{length}
use Rattle.replay.proofs.count.Given as goal

abbrev pub invariant-loop-at : goal.invariant-loop-at
invariant-loop-at l = (l.at ≤ length l.input + 1) × (l.line ≤ l.at) × (l.tally.seen ≤ l.line) × (l.tally.agreed ≤ l.tally.seen)

abbrev pub decreases-loop-at : goal.decreases-loop-at
decreases-loop-at l = length l.input + 1 - l.at
