-- The first i bytes are copied, each read before it was overwritten, and the rest is as it was.
use Rattle.picture.specs.Buffers.{line_from}
use Rattle.picture.specs.Spans.{Run}
use Rattle.picture.proofs.buffers.copy_back.Given as goal

abbrev pub invariant-loop-i : goal.invariant-loop-i
invariant-loop-i l = Run 0 l.initial.bytes l.bytes l.to l.i (line_from l.from l.initial.bytes)
