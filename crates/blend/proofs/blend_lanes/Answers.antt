use mathlib.Core.Path.{refl}
use native.Mathlib.Omega.{arith}
use Rattle.picture.proofs.Spans.{span_more}
use Rattle.blend.proofs.blend_lanes.Goals as goal

pub loop-k-preserved : goal.loop-k-preserved
loop-k-preserved c =
    let l = c.loop-k.invariant in
    span_more l (omega arith) (omega arith) refl (rw c.weights-w.ensures at c.blend.ensures)
