-- `nearest` meets its contract: each sum is whole, and half of their bits' sum is `y` rounded, but for a multiple of 256.
use Rattle.std.proofs.Common.{rules}
use lib.Ieee.{of_bits}
use Rattle.binary32.proofs.Sums.{first_told, second_told, sums_fit, sums_round}
use Rattle.binary32.proofs.nearest.Goals as goal

pub float_to_bits-a : goal.float_to_bits-a
unfolding of_bits
float_to_bits-a c = first_told c.args.y c.requires.fact_1 c.requires.fact_2

pub float_to_bits-b : goal.float_to_bits-b
unfolding of_bits
float_to_bits-b c = second_told c.args.y c.requires.fact_1 c.requires.fact_2

pub overflow_add-result : goal.overflow_add-result
unfolding of_bits
overflow_add-result c = let f = sums_fit c.args.y c.requires.fact_1 c.requires.fact_2 in search rules

pub returns : goal.returns
unfolding of_bits
returns c = sums_round c.args.y c.requires.fact_1 c.requires.fact_2
