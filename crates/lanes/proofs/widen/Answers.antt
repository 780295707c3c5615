use mathlib.Core.Path.{refl}
use native.Mathlib.Omega.{arith}
use Rattle.picture.proofs.Spans.{span_none, span_more, span_ends}
use Rattle.lanes.proofs.widen.Goals as goal

pub loop-i-preserved : goal.loop-i-preserved
loop-i-preserved c =
    span_more c.loop-i.invariant (omega arith) (omega arith) refl refl

pub loop-i-init : goal.loop-i-init
loop-i-init c = span_none (omega arith)

pub shape_of-line : goal.shape_of-line
shape_of-line c = c.loop-i.invariant.size

pub returns : goal.returns
returns c = span_ends c.loop-i.invariant refl (omega arith)
