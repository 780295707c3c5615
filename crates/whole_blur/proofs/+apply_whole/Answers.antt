-- The level below takes the first part of either buffer, and comes back blurred with one decimation fewer.
use mathlib.Core.Path.{sym, ◌∙◌}
use Rattle.passes.specs.Forms.{of_pixels}
use Rattle.passes.proofs.Forms.{as_pixels}
use Rattle.grid_sums.specs.Sums.{whole_convolve}
use Rattle.grid_sums.proofs.Local.{whole_local}
use Rattle.gaussian_blur.proofs.Step.{Part, pixels_blurred, blurred_none, below_sized, step}
use Rattle.whole_blur.specs.Blurred.{whole_blurred}
use Rattle.whole_blur.proofs.+apply_whole.Goals as goal

pub returns-then-n-eq0 : goal.returns-then-n-eq0
unfolding whole_blurred
returns-then-n-eq0 t c =
    let a = c.args in
    let C = whole_convolve a.mode a.numerators.now in
    let lc = whole_local a.mode a.numerators.now in
    let z = c.requires.pictured.sized in
    c.whole_level.ensures
    ∙ blurred_none of_pixels C lc a.mode a.s z a.picture.now a.n c.if-n-eq0.true
    ∙ pixels_blurred C lc a.mode a.n a.s.w a.s.h z a.picture.now

pub returns-else-n-eq0 : goal.returns-else-n-eq0
unfolding whole_blurred
returns-else-n-eq0 t c =
    let a = c.args in
    let u = c.half-t.result in
    let C = whole_convolve a.mode a.numerators.now in
    let lc = whole_local a.mode a.numerators.now in
    let z = c.requires.pictured.sized in
    let part : Part of_pixels a.s u c.bytes-k.result c.halve_form.new.picture = record { sized = z; below = c.half-t.ensures; bytes = as_pixels u.w u.h c.bytes-k.ensures; all = as_pixels a.s.w a.s.h (c.halve_form.auto.picture ∙ c.requires.pictured.exact) } in
    let as_form = sym (pixels_blurred C lc a.mode _ u.w u.h (below_sized a.s z c.half-t.ensures) _) in
    step part C lc a.mode a.n a.picture.now c.if-n-eq0.false c.apply_whole.auto.picture c.halve_form.ensures (c.apply_whole.ensures ∙ as_form) c.double_form.ensures
    ∙ pixels_blurred C lc a.mode a.n a.s.w a.s.h z a.picture.now
