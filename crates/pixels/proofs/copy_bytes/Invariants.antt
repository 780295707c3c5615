-- The first i bytes are copied, and the others are as they were.
use lib.ListN.{get_or}
use Rattle.picture.proofs.Filled.{Filling}
use Rattle.pixels.proofs.copy_bytes.Given as goal

abbrev pub invariant-loop-i : goal.invariant-loop-i
invariant-loop-i l = Filling 0 (λ k. get_or l.from k 0) l.initial.to l.to l.i
