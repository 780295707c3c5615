-- The first k pixels are laid, and the other bytes are as they were.
use Prim.Native.Nat.{◌+◌, ◌*◌, ◌/◌, ◌%◌}
use lib.ListN.{get_or}
use Rattle.picture.specs.Spans.{Run}
use Rattle.counting.specs.Words.{byte_in}
use Rattle.halves.proofs.together.lay_pixels.Given as goal

abbrev pub invariant-loop-k : goal.invariant-loop-k
invariant-loop-k l = Run 0 l.initial.dst l.dst (4 * l.m) (4 * l.k) (λ j. byte_in (get_or l.low (j / 4) 0 + get_or l.high (j / 4) 0 * 65536) (j % 4))
