-- A plane is rows of elements of one byte.
use mathlib.Core.Path.{◌∙◌}
use native.Mathlib.Omega.{arith}
use Rattle.shift.proofs.Pixels.{plane_moved}
use Rattle.shift.proofs.offset_plane.Goals as goal

pub offset_elements-requires : goal.offset_elements-requires
offset_elements-requires c = record { fact_1 = omega arith; fact_2 = c.requires }

pub returns : goal.returns
returns c =
    let a = c.args in
    c.offset_elements.ensures ∙ plane_moved a.dx a.dy a.size.w a.size.h a.plane.now c.requires.offsets c.requires.sized.w_low
