-- The product of any two sides fits 64 bits.
use Rattle.std.proofs.Common.{arith, rules}
use Rattle.picture.proofs.Quarter.{area}
use Rattle.area_updates.specs.Outcome.{wrong_place}
use Rattle.area_updates.proofs.updater.wrong_place.Goals as goal

pub overflow_mul-result : goal.overflow_mul-result
overflow_mul-result c = omega (arith, area c.args.w c.args.h c.ranges.w.fits c.ranges.h.fits)

pub returns : goal.returns
unfolding wrong_place
returns c = search rules
