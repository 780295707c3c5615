-- Each turn copies one element more.
use Prim.Native.Nat.{◌+◌, ◌*◌, ◌/◌, ◌%◌}
use lib.ListN.{get_or}
use Rattle.picture.specs.Spans.{Span}
use Rattle.turns.proofs.gather.Given as goal

abbrev pub invariant-loop-y : goal.invariant-loop-y
invariant-loop-y l = Span 0 l.initial.dst l.dst l.q 0 (l.y * l.size) (λ j. get_or l.src (l.p + j / l.size * l.step + j % l.size) 0)
