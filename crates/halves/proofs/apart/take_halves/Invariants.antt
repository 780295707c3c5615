-- The first k halves are taken.
use Prim.Native.Nat.{◌/◌, ◌%◌}
use lib.ListN.{get_or}
use Rattle.picture.specs.Spans.{Run}
use Rattle.halves.proofs.apart.take_halves.Given as goal

abbrev pub invariant-loop-k : goal.invariant-loop-k
invariant-loop-k l = Run 0 l.initial.halves l.halves 0 l.k (λ j. get_or l.words j 0 / l.by % 65536)
