-- A picture is rows of elements of four bytes.
use mathlib.Core.Path.{sym, ◌∙◌}
use native.Mathlib.Omega.{arith}
use Rattle.shift.proofs.Pixels.{row_bytes_lem, picture_moved}
use Rattle.shift.proofs.offset_pixels.Goals as goal

pub offset_elements-requires : goal.offset_elements-requires
offset_elements-requires c = record { fact_1 = omega arith; fact_2 = record { sized = c.requires.pictured.sized; exact = c.requires.pictured.exact ∙ sym (row_bytes_lem c.args.size.w c.args.size.h); offsets = c.requires.offsets } }

pub returns : goal.returns
returns c =
    let a = c.args in
    c.offset_elements.ensures ∙ picture_moved a.dx a.dy a.size.w a.size.h a.picture.now c.requires.offsets
