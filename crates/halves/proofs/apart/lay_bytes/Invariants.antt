-- The bytes of the first k halves are laid, and the others are as they were.
use Prim.Native.Nat.{◌/◌, ◌%◌}
use lib.ListN.{get_or}
use Rattle.picture.specs.Spans.{Run}
use Rattle.halves.proofs.apart.lay_bytes.Given as goal

abbrev pub invariant-loop-k : goal.invariant-loop-k
invariant-loop-k l = Run 0 l.initial.dst l.dst l.to l.k (λ j. get_or l.halves j 0 / l.by % 256)
