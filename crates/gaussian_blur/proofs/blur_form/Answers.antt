-- By the strength: blurred from level 0 on, or left alone.
use mathlib.Core.Path.{◌∙◌}
use lib.Ieee.{of_bits}
use Rattle.gaussian_blur.proofs.Outcomes.{blurs, keeps}
use Rattle.gaussian_blur.proofs.blur_form.Goals as goal

pub returns-then-strength : goal.returns-then-strength
unfolding of_bits
returns-then-strength c =
    let a = c.args in
    rw c.level_zero.ensures at c.apply_blur.ensures
    ∙ blurs a.form a.mode a.weights.now a.n a.strength a.size.w a.size.h a.bytes.now c.if-strength.true

pub returns-else-strength : goal.returns-else-strength
unfolding of_bits
returns-else-strength c =
    let a = c.args in
    keeps a.form a.mode a.weights.now a.n a.strength a.size.w a.size.h a.bytes.now c.if-strength.false
