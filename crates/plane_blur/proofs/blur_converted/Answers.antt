-- The picture is made in the scratch, blurred there, and made into planes again.
use Rattle.gaussian_blur.specs.Outcome.{blurred_or_kept}
use Rattle.plane_blur.proofs.Worked.{worked}
use Rattle.plane_blur.proofs.blur_converted.Goals as goal

pub returns : goal.returns
returns c =
    let a = c.args in
    worked a.size.w a.size.h (blurred_or_kept a.mode a.weights.now a.n a.strength a.size.w a.size.h) a.planes.now _ _ _
    c.join.ensures c.blur_or_keep.ensures c.split.ensures
