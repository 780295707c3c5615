-- The first k halves are made.
use Prim.Native.Nat.{◌+◌, ◌*◌}
use lib.ListN.{get_or}
use Rattle.picture.specs.Spans.{Run}
use Rattle.halves.proofs.together.pair_bytes.Given as goal

abbrev pub invariant-loop-k : goal.invariant-loop-k
invariant-loop-k l = Run 0 l.initial.halves l.halves 0 l.k (λ j. get_or l.src (l.p + j) 0 + get_or l.src (l.q + j) 0 * 256)
