-- The first k pixels are written, and the bytes after them are as they were.
use lib.ListN.{length, get_or}
use Rattle.pixels.proofs.Painting.{Painting}
use Rattle.counting.specs.Words.{byte_in}
use Rattle.counting.proofs.words.unpack_pixels.Given as goal

abbrev pub invariant-loop-k : goal.invariant-loop-k
invariant-loop-k l = Painting (λ i. byte_in (get_or l.words i 0)) l.initial.bytes l.bytes l.k (length l.words)
