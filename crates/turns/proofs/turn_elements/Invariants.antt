-- Each turn lays one element more of every line.
use Prim.Native.Nat.{◌*◌, ◌/◌, ◌%◌}
use Rattle.picture.specs.Spans.{Span}
use Rattle.turns.specs.Turned.{turned_byte}
use Rattle.turns.proofs.turn_elements.Given as goal

abbrev pub invariant-loop-x : goal.invariant-loop-x
invariant-loop-x l = Span 0 l.initial.dst l.dst 0 0 (l.x * (l.lines * l.size)) (λ i. turned_byte l.src l.len l.size (i / (l.lines * l.size)) (i % (l.lines * l.size)))
