-- Rows to scratch and columns back are the pass of a level.
use mathlib.Core.Path.{◌∙◌}
use Prim.Native.Nat.{◌*◌}
use native.Mathlib.Nat.{one-mul}
use native.Mathlib.Omega.{arith}
use Rattle.passes.specs.Forms.{of_pixels}
use Rattle.passes.specs.Lines.{Lines}
use Rattle.passes.proofs.Forms.{pixels_formed, as_pixels}
use Rattle.passes.proofs.Lines.{lines_fit, rows_are, cols_are, level_is}
use Rattle.grid_sums.specs.Sums.{whole_convolve}
use Rattle.grid_sums.proofs.Local.{whole_local}
use Rattle.whole_lines.proofs.whole_level.Goals as goal

pub whole_rows-requires : goal.whole_rows-requires
whole_rows-requires c =
    let z = c.args.s in
    let w = c.width-w.result in
    let h = c.height-h.result in
    let rows : Lines c.args.picture.now c.args.scratch.now (1 * h) w w 4 = rows_are of_pixels pixels_formed z c.requires.fact_1 c.width-w.ensures c.height-h.ensures (as_pixels z.w z.h c.requires.fact_2) (as_pixels z.w z.h c.requires.fact_3) in
    record { kernel = c.requires.fact_4; lined = rw (one-mul h) at rows }

pub overflow_mul-w : goal.overflow_mul-w
overflow_mul-w c =
    omega (arith, lines_fit of_pixels pixels_formed c.args.s c.requires.fact_1 c.width-w.ensures c.height-h.ensures)

pub whole_lines-requires : goal.whole_lines-requires
whole_lines-requires c =
    let z = c.args.s in
    record {
      kernel = c.requires.fact_4;
      lined = cols_are of_pixels pixels_formed z c.requires.fact_1 c.width-w.ensures c.height-h.ensures (as_pixels z.w z.h (c.whole_rows.auto.scratch ∙ c.requires.fact_3)) (as_pixels z.w z.h (c.whole_rows.auto.picture ∙ c.requires.fact_2));
    }

pub returns : goal.returns
returns c =
    let a = c.args in
    level_is of_pixels pixels_formed a.s c.requires.fact_1 c.width-w.ensures c.height-h.ensures (whole_convolve a.mode a.numerators.now) (whole_local a.mode a.numerators.now) a.picture.now
    (rw (one-mul c.height-h.result) c.whole_rows.ensures) c.whole_lines.ensures
