-- Either way the planes are what the picture becomes.
use mathlib.Core.Path.{◌∙◌, sym}
use native.Mathlib.Omega.{arith}
use Rattle.passes.specs.Forms.{of_planes, Formed}
use Rattle.plane_blur.proofs.Native.{planes_bytes, planes_worked}
use Rattle.plane_blur.proofs.apply_blur_planes.Goals as goal

pub returns-then-width-lt-WIDE : goal.returns-then-width-lt-WIDE
returns-then-width-lt-WIDE c = c.blur_converted.ensures

pub blur_form-requires : goal.blur_form-requires
blur_form-requires c = let z = c.args.size in
    let formed : Formed (of_planes 4) = record { planes_low = omega arith; planes_high = omega arith; lanes_low = omega arith; lanes_high = omega arith } in
    let exact = sym (planes_bytes z.w z.h) in record { fact_1 = formed; fact_2 = c.requires.pictured.sized; fact_3 = c.requires.pictured.exact ∙ exact; fact_4 = c.requires.scratch_is ∙ exact; fact_5 = c.requires.kernel }

pub returns-else-width-lt-WIDE : goal.returns-else-width-lt-WIDE
returns-else-width-lt-WIDE c =
    let a = c.args in
    c.blur_form.ensures ∙ planes_worked a.mode a.weights.now a.size.w a.size.h c.requires.pictured.sized a.planes.now a.n a.strength c.requires.pictured.exact
