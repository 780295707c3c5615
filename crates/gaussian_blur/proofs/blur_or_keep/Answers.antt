-- A picture is a form of its bytes: what a call in that form leaves is what the picture becomes.
use mathlib.Core.Path.{◌∙◌, refl}
use Rattle.passes.specs.Forms.{of_pixels}
use Rattle.passes.specs.Passes.{convolve}
use Rattle.passes.proofs.Local.{convolve_local}
use Rattle.gaussian_blur.specs.Blurred.{blurred}
use Rattle.gaussian_blur.specs.Outcome.{blurred_or_kept}
use Rattle.gaussian_blur.proofs.Step.{pixels_blurred}
use Rattle.gaussian_blur.proofs.Outcomes.{made_or_kept}
use Rattle.gaussian_blur.proofs.blur_or_keep.Goals as goal

pub returns : goal.returns
unfolding blurred_or_kept blurred
returns c =
    let a = c.args in
    c.blur_form.ensures
    ∙ made_or_kept of_pixels a.mode a.weights.now a.n a.strength a.size.w a.size.h a.picture.now
    (pixels_blurred (convolve a.mode a.weights.now) (convolve_local a.mode a.weights.now) a.mode a.n a.size.w a.size.h c.requires.pictured.sized a.picture.now) refl
