-- A byte in 16 bits has room in 32.
use mathlib.Core.Path.{refl}
use native.Mathlib.Omega.{arith}
use Rattle.grid_sums.proofs.Sums.{product_fits}
use Rattle.grid_sums.proofs.weigh_byte.Goals as goal

pub overflow_mul-result : goal.overflow_mul-result
overflow_mul-result c = omega (arith, product_fits c.ranges.b.fits c.ranges.k.fits)

pub returns : goal.returns
returns c = (refl, product_fits c.ranges.b.fits c.ranges.k.fits)
