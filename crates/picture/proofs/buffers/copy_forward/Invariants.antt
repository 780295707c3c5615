-- The last k bytes are copied, each read before it was overwritten, and the rest is as it was.
use Prim.Native.Nat.{◌-◌}
use Rattle.picture.specs.Buffers.{line_from}
use Rattle.picture.specs.Spans.{Span}
use Rattle.picture.proofs.buffers.copy_forward.Given as goal

abbrev pub invariant-loop-k : goal.invariant-loop-k
invariant-loop-k l = Span 0 l.initial.bytes l.bytes l.to (l.n - l.k) l.n (line_from l.from l.initial.bytes)
