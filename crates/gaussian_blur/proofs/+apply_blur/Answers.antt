-- The level below takes the first part of either buffer, and comes back blurred with one decimation fewer.
use mathlib.Core.Path.{◌∙◌}
use Rattle.passes.specs.Passes.{convolve}
use Rattle.passes.proofs.Local.{convolve_local}
use Rattle.gaussian_blur.proofs.Step.{Part, blurred_none, step}
use Rattle.gaussian_blur.proofs.+apply_blur.Goals as goal

pub returns-then-n-eq0 : goal.returns-then-n-eq0
returns-then-n-eq0 t c =
    let a = c.args in
    c.convolve_form.ensures ∙ blurred_none a.form (convolve a.mode a.weights.now) (convolve_local a.mode a.weights.now) a.mode a.s c.requires.1.0 a.picture.now a.n c.if-n-eq0.true

pub returns-else-n-eq0 : goal.returns-else-n-eq0
returns-else-n-eq0 t c =
    let a = c.args in
    let part : Part a.form a.s c.half-t.result c.form_bytes-k.result c.halve_form.new.picture = record { sized = c.requires.1.0; below = c.half-t.ensures; bytes = c.form_bytes-k.ensures; all = c.halve_form.auto.picture ∙ c.requires.1.1.0 } in
    step part (convolve a.mode a.weights.now) (convolve_local a.mode a.weights.now) a.mode a.n a.picture.now c.if-n-eq0.false c.apply_blur.auto.picture c.halve_form.ensures c.apply_blur.ensures c.double_form.ensures
