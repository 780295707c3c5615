-- The product of two sides fits 64 bits.
use mathlib.Core.Path.{refl}
use native.Mathlib.Omega.{arith}
use Rattle.picture.proofs.Quarter.{area}
use Rattle.share_checks.specs.Checks.{place_outside}
use Rattle.share_checks.proofs.checks.place_outside.Goals as goal

pub overflow_mul-result : goal.overflow_mul-result
overflow_mul-result c = omega (arith, area c.args.w c.args.h c.ranges.w.fits c.ranges.h.fits)

pub returns : goal.returns
unfolding place_outside
returns c = refl
