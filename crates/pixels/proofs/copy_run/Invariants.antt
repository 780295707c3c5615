-- The bytes up to place k are copied, and the others are as they were.
use Prim.Native.Nat.{◌+◌}
use lib.ListN.{get_or}
use Rattle.picture.specs.Spans.{Run}
use Rattle.pixels.proofs.copy_run.Given as goal

abbrev pub invariant-loop-k : goal.invariant-loop-k
invariant-loop-k l = Run 0 l.initial.dst l.dst l.q l.k (λ j. get_or l.src (l.p + j) 0)
