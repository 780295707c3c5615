-- Rows to scratch and columns back are the pass of a level.
use mathlib.Core.Path.{◌∙◌}
use native.Mathlib.Omega.{arith}
use Rattle.passes.specs.Passes.{convolve}
use Rattle.passes.proofs.Lines.{lines_fit, rows_are, cols_are, level_is}
use Rattle.passes.proofs.Local.{convolve_local}
use Rattle.convolve.proofs.convolve_form.Goals as goal

pub overflow_mul-form : goal.overflow_mul-form
overflow_mul-form c =
    omega (arith, lines_fit c.args.form c.requires.fact_1 c.args.s c.requires.fact_2 c.width-w.ensures c.height-h.ensures)

pub convolve_rows-requires : goal.convolve_rows-requires
convolve_rows-requires c =
    record {
      kernel = c.requires.fact_5;
      lined = rows_are c.args.form c.requires.fact_1 c.args.s c.requires.fact_2 c.width-w.ensures c.height-h.ensures c.requires.fact_3 c.requires.fact_4;
    }

pub overflow_mul-w : goal.overflow_mul-w
overflow_mul-w c =
    omega (arith, lines_fit c.args.form c.requires.fact_1 c.args.s c.requires.fact_2 c.width-w.ensures c.height-h.ensures)

pub convolve_lines-requires : goal.convolve_lines-requires
convolve_lines-requires c =
    record {
      kernel = c.requires.fact_5;
      lined = cols_are c.args.form c.requires.fact_1 c.args.s c.requires.fact_2 c.width-w.ensures c.height-h.ensures (c.convolve_rows.auto.scratch ∙ c.requires.fact_4) (c.convolve_rows.auto.picture ∙ c.requires.fact_3);
    }

pub returns : goal.returns
returns c =
    let a = c.args in
    level_is a.form c.requires.fact_1 a.s c.requires.fact_2 c.width-w.ensures c.height-h.ensures (convolve a.mode a.weights.now) (convolve_local a.mode a.weights.now) a.picture.now c.convolve_rows.ensures c.convolve_lines.ensures
