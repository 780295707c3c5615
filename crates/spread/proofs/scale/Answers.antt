-- A shift by 2n is a product with 4^n.
use native.Mathlib.Omega.{arith}
use Rattle.spread.proofs.Scales.{depth_fits, shifted}
use Rattle.spread.proofs.scale.Goals as goal

pub overflow_mul-result : goal.overflow_mul-result
overflow_mul-result c = omega (arith, depth_fits c.args.n c.requires)

pub overflow_shl-result : goal.overflow_shl-result
overflow_shl-result c = omega (arith, depth_fits c.args.n c.requires)

pub returns : goal.returns
returns c = shifted c.args.n (depth_fits _ c.requires)
