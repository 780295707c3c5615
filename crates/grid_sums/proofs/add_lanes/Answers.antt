use mathlib.Core.Path.{refl, ap₂}
use Prim.Native.Nat.{◌+◌}
use native.Mathlib.Omega.{arith}
use Rattle.picture.proofs.Spans.{span_none, span_more, span_ends}
use Rattle.grid_sums.proofs.add_lanes.Goals as goal

pub overflow_add-acc : goal.overflow_add-acc
overflow_add-acc c =
    let i = c.loop-i.i in
    omega (arith, c.loop-i.invariant.above i (omega arith), c.requires.fact_3 i c.loop-i-test.true)

pub loop-i-preserved : goal.loop-i-preserved
loop-i-preserved c =
    span_more c.loop-i.invariant (omega arith) (omega arith) (omega arith) (ap₂ ◌+◌ (c.loop-i.invariant.above c.loop-i.i (omega arith)) c.weigh_byte.ensures.0)

pub loop-i-init : goal.loop-i-init
loop-i-init c = span_none (omega arith)

pub shape_of-acc : goal.shape_of-acc
shape_of-acc c = c.loop-i.invariant.size

pub returns : goal.returns
returns c = span_ends c.loop-i.invariant refl (omega arith)
