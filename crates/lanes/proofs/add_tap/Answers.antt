use mathlib.Core.Path.{refl, ap}
use Prim.Native.Nat.{◌+◌}
use native.Mathlib.Omega.{arith}
use lib.Ieee.{Float, nan}
use lib.ListN.{get_or}
use Rattle.picture.proofs.Spans.{span_none, span_more, span_ends}
use Rattle.lanes.specs.Lanes.{add_tap}
use Rattle.lanes.proofs.add_tap.Goals as goal

pub loop-i-preserved : goal.loop-i-preserved
loop-i-preserved c =
    let a = c.args in
    let i = c.loop-i.i in
    span_more c.loop-i.invariant (omega arith) (omega arith) (omega arith) (ap (λ (s : Float). add_tap s (get_or a.line.now (a.a + i) nan) a.k) (c.loop-i.invariant.above i (omega arith)))

pub loop-i-init : goal.loop-i-init
loop-i-init c = span_none (omega arith)

pub shape_of-acc : goal.shape_of-acc
shape_of-acc c = c.loop-i.invariant.size

pub returns : goal.returns
returns c = span_ends c.loop-i.invariant refl (omega arith)
