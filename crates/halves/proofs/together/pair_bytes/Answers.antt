use mathlib.Core.Path.{refl}
use native.Mathlib.Omega.{arith}
use Rattle.picture.proofs.Spans.{span_none, span_more, span_ends}
use Rattle.halves.proofs.together.pair_bytes.Goals as goal

pub loop-k-init : goal.loop-k-init
loop-k-init c = span_none (omega arith)

pub loop-k-preserved : goal.loop-k-preserved
loop-k-preserved c = span_more c.loop-k.invariant (omega arith) (omega arith) (omega arith) c.from_le_bytes.ensures

pub returns : goal.returns
returns c = span_ends c.loop-k.invariant refl (omega arith)
