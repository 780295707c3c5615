-- One output is worth 1; what each element of the line is then worth is its share.
use mathlib.Core.Path.{◌∙◌}
use native.Mathlib.Omega.{arith}
use lib.ListN.{length-set}
use Rattle.backwards.proofs.Lines.{scale_fits, one_total, shares_are}
use Rattle.backwards.proofs.line.axis_shares.Goals as goal

pub carry_line-requires : goal.carry_line-requires
carry_line-requires c =
    let a = c.args in
    let r = c.requires in
    record {
      low = omega (arith, r.inside);
      high = r.high;
      outputs_is = length-set a.work.now a.o 1 ∙ r.work_is;
      row_is = r.row_is;
      blank = r.row_blank;
      kernel = r.kernel;
      room = scale_fits a.n _ r.shallow (one_total a.work.now a.o r.work_blank (omega (arith, r.inside, r.work_is)));
    }

pub returns : goal.returns
returns c =
    let a = c.args in
    let r = c.requires in
    record {
      row_after =
          shares_are a.work.now a.o r.work_blank (omega (arith, r.inside, r.work_is)) a.mode a.numerators.now a.n a.side.s c.carry_line.new.row
          (c.carry_line.auto.row ∙ r.row_is) c.carry_line.ensures.carried;
      blank = c.carry_line.ensures.blank;
    }
