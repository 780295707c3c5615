-- `at_most_one` meets its contract: its test is the definition's.
use lib.Ieee.{of_bits}
use Rattle.composite.specs.Channels.{at_most_one}
use Rattle.composite.proofs.at_most_one.Goals as goal

pub returns-then-x : goal.returns-then-x
unfolding of_bits at_most_one
returns-then-x c = simp c.if-x.true

pub returns-else-x : goal.returns-else-x
unfolding of_bits at_most_one
returns-else-x c = simp c.if-x.false
