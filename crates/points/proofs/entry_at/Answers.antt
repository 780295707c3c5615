-- The product of two numbers of 32 bits fits 64.
use mathlib.Core.Path.{refl}
use native.Mathlib.Omega.{arith}
use Rattle.picture.proofs.Quarter.{area}
use Rattle.points.proofs.entry_at.Goals as goal

pub overflow_mul-result : goal.overflow_mul-result
overflow_mul-result c = omega (arith, area c.args.x c.args.y c.ranges.x.fits c.ranges.y.fits)

pub returns : goal.returns
returns c = refl
