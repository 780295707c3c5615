-- What has been written so far is a run of bytes; each turn writes the next.
use Rattle.picture.specs.Spans.{Run}
use Rattle.blend.specs.Tapped.{tapped}
use Rattle.blend.proofs.blend_lanes.Given as goal

abbrev pub invariant-loop-k : goal.invariant-loop-k
invariant-loop-k l = Run 0 l.initial.dst l.dst l.o l.k (tapped l.src l.start l.fn.t)
