-- The shadow's alphas are made first, and each way writes what the definition says of them.
use mathlib.Core.Bool.{true, false}
use Rattle.planes.specs.Planar.{plane_of, painted_planes}
use Rattle.composite.proofs.Laid.{shadow_written}
use Rattle.plane_shadow.proofs.Cast.{planes_same}
use Rattle.plane_shadow.proofs.write_plane_shadow.Goals as goal

pub returns-then-composite : goal.returns-then-composite
returns-then-composite c =
    let a = c.args in
    shadow_written a.size.w a.size.h (painted_planes a.size.w a.size.h) (planes_same a.size.w a.size.h) (plane_of a.planes.now a.size.w a.size.h) a.colour a.plane.now c.requires.fact_1.exact true c.if-composite.true c.tint_of-tint.ensures c.shadow_alphas.ensures c.lay_planes.ensures

pub returns-else-composite : goal.returns-else-composite
returns-else-composite c =
    let a = c.args in
    shadow_written a.size.w a.size.h (painted_planes a.size.w a.size.h) (planes_same a.size.w a.size.h) (plane_of a.planes.now a.size.w a.size.h) a.colour a.plane.now c.requires.fact_1.exact false c.if-composite.false c.tint_of-tint.ensures c.shadow_alphas.ensures c.lay_planes-else-composite.ensures
