use mathlib.Core.Path.{refl}
use native.Mathlib.Omega.{arith}
use Rattle.picture.proofs.Spans.{span_none, span_more, span_ends}
use Rattle.pixels.proofs.copy_run.Goals as goal

pub loop-k-init : goal.loop-k-init
loop-k-init c = span_none (omega arith)

pub loop-k-preserved : goal.loop-k-preserved
loop-k-preserved c = span_more c.loop-k.invariant (omega arith) (omega arith) refl refl

pub returns : goal.returns
returns c = span_ends c.loop-k.invariant refl (omega arith)
