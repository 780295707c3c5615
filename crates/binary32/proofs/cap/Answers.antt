-- `cap` meets its contract: its test is the definition's.
use lib.Ieee.{of_bits}
use Rattle.binary32.proofs.cap.Goals as goal

pub returns-then-x : goal.returns-then-x
unfolding of_bits
returns-then-x c = simp c.if-x.true

pub returns-else-x : goal.returns-else-x
unfolding of_bits
returns-else-x c = simp c.if-x.false
