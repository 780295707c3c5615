use mathlib.Core.Path.{refl}
use native.Mathlib.Omega.{arith}
use Rattle.picture.proofs.Spans.{span_none, span_more, span_ends}
use Rattle.lanes.proofs.round_lanes.Goals as goal

pub round_channel-requires : goal.round_channel-requires
round_channel-requires c =
    c.requires.fact_3 c.loop-i.i c.loop-i-test.true

pub loop-i-preserved : goal.loop-i-preserved
loop-i-preserved c =
    span_more c.loop-i.invariant (omega arith) (omega arith) refl c.round_channel.ensures

pub loop-i-init : goal.loop-i-init
loop-i-init c = span_none (omega arith)

pub shape_of-dst : goal.shape_of-dst
shape_of-dst c = c.loop-i.invariant.size

pub returns : goal.returns
returns c = span_ends c.loop-i.invariant refl (omega arith)
