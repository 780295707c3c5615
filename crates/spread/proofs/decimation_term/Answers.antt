-- Half the scale is 4^n, which is no less than 1 and has room.
use native.Mathlib.Omega.{arith}
use Rattle.spread.specs.Spread.{decimation_term}
use Rattle.spread.proofs.Scales.{four_pos, depth_fits, scale_fits}
use Rattle.spread.proofs.decimation_term.Goals as goal

pub overflow_sub-result : goal.overflow_sub-result
overflow_sub-result c = omega (arith, c.scale.ensures, four_pos c.args.n)

pub overflow_mul-result : goal.overflow_mul-result
overflow_mul-result c =
    omega (arith, c.scale.ensures, scale_fits c.args.n (depth_fits _ c.requires))

pub returns : goal.returns
unfolding decimation_term
returns c = omega (arith, c.scale.ensures)
