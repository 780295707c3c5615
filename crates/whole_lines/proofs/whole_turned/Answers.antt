-- Turned, convolved as one line and turned back are the pass over the lines.
use native.Mathlib.Omega.{arith}
use Rattle.turns.proofs.Lines.{one_fits, turned_pass}
use Rattle.grid_sums.specs.Sums.{whole_convolve}
use Rattle.grid_sums.proofs.Local.{whole_local}
use Rattle.whole_lines.proofs.whole_turned.Goals as goal

pub overflow_mul-h : goal.overflow_mul-h
overflow_mul-h c =
    omega (arith, one_fits c.requires.lined, c.well_formed.0.0)

pub returns : goal.returns
returns c =
    let a = c.args in
    let p = c.requires.lined in
    turned_pass p p.len_low (whole_convolve a.mode a.numerators.now) (whole_local a.mode a.numerators.now) c.turn.ensures c.whole_lines.ensures c.turn-2.ensures
