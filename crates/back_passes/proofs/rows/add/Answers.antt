-- One element is worth more; it fits, as it is at most all that the row holds.
use native.Mathlib.Omega.{arith}
use Rattle.back_passes.proofs.Worth.{element_le, worth_more}
use Rattle.back_passes.proofs.rows.add.Goals as goal

pub overflow_add-row : goal.overflow_add-row
overflow_add-row c = omega (arith, element_le c.args.row.now c.args.i c.requires.fact_1, c.requires.fact_2)

pub returns : goal.returns
returns c = worth_more c.args.row.now c.args.i c.args.more c.requires.fact_1
