-- Neither the product nor the sum wraps: the scale and the moment have room, and so has the spread.
use native.Mathlib.Omega.{arith}
use Rattle.spread.specs.Spread.{spread_of}
use Rattle.spread.proofs.Moments.{moment_fits}
use Rattle.spread.proofs.Scales.{depth_fits, scaled_fits, spread_fits}
use Rattle.spread.proofs.spread_of.Goals as goal

pub overflow_mul-result : goal.overflow_mul-result
overflow_mul-result c =
    let room = scaled_fits c.args.n (depth_fits _ c.requires.1) _ (moment_fits c.args.weights.now c.requires.0) in
    rw (c.scale.ensures, c.moment.ensures) (omega (arith, room))

pub overflow_add-result : goal.overflow_add-result
unfolding spread_of
overflow_add-result c =
    let room = spread_fits c.args.n (depth_fits _ c.requires.1) c.args.weights.now c.requires.0 in
    rw (c.scale.ensures, c.moment.ensures, c.decimation_term.ensures) (omega (arith, room))

pub returns : goal.returns
unfolding spread_of
returns c = rw (c.scale.ensures, c.moment.ensures, c.decimation_term.ensures)
