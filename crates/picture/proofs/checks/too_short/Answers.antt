-- A quarter of the length is below the product where the length is below four times it.
use Prim.Native.Nat.{◌*◌}
use native.Mathlib.Omega.{arith}
use Rattle.picture.specs.Refusal.{too_short}
use Rattle.picture.proofs.Quarter.{ltb_quarter, area}
use Rattle.picture.proofs.checks.too_short.Goals as goal

pub overflow_mul-result : goal.overflow_mul-result
overflow_mul-result c = omega (arith, area c.args.w c.args.h c.ranges.w.fits c.ranges.h.fits)

pub returns : goal.returns
unfolding too_short
returns c = ltb_quarter c.args.len (c.args.w * c.args.h)
