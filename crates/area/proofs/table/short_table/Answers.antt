-- The product of any two sides fits 64 bits.
use Rattle.std.proofs.Common.{arith, rules}
use Rattle.picture.proofs.Quarter.{area}
use Rattle.area.specs.Outcome.{short_table}
use Rattle.area.proofs.table.short_table.Goals as goal

pub overflow_mul-result : goal.overflow_mul-result
overflow_mul-result c = omega (arith, area c.args.w c.args.h c.ranges.w.fits c.ranges.h.fits)

pub returns : goal.returns
unfolding short_table
returns c = search rules
