-- The place is in the line, and the buffer keeps its length.
use Prim.Native.Nat.{◌≤◌}
use lib.ListN.{length}
use Rattle.vector_values.proofs.text.numbers.Given as goal

abbrev pub invariant-loop-i : goal.invariant-loop-i
invariant-loop-i l = l.at ≤ length l.line
