-- The shadow's alphas are made first, and each way writes what the definition says of them.
use mathlib.Core.Bool.{true, false}
use Rattle.picture.specs.Planes.{chan, painted}
use Rattle.picture.proofs.Planes.{painted_same}
use Rattle.composite.proofs.Laid.{shadow_written}
use Rattle.composite.proofs.write_colored_shadow.Goals as goal

pub returns-then-composite : goal.returns-then-composite
returns-then-composite c =
    let a = c.args in
    shadow_written a.size.w a.size.h (painted a.size.w a.size.h) (painted_same a.size.w a.size.h) (chan a.picture.now a.size.w) a.colour a.plane.now c.requires.fact_1 true c.if-composite.true c.tint_of-tint.ensures c.shadow_alphas.ensures c.lay_pixels.ensures

pub returns-else-composite : goal.returns-else-composite
returns-else-composite c =
    let a = c.args in
    shadow_written a.size.w a.size.h (painted a.size.w a.size.h) (painted_same a.size.w a.size.h) (chan a.picture.now a.size.w) a.colour a.plane.now c.requires.fact_1 false c.if-composite.false c.tint_of-tint.ensures c.shadow_alphas.ensures c.lay_pixels-else-composite.ensures
