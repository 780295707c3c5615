-- The test is the definition's, and twice a side fits.
use Rattle.std.proofs.Common.{arith, le-ltb, lt-ltb}
use Rattle.picture.proofs.Sizes.{room_is}
use Rattle.edges.proofs.reflected.Goals as goal

pub overflow_mul-result : goal.overflow_mul-result
overflow_mul-result c = omega (arith, room_is)

pub returns-then-m-s : goal.returns-then-m-s
returns-then-m-s c = let a = c.args in simp (lt-ltb a.m a.s (omega arith))

pub returns-else-m-s : goal.returns-else-m-s
returns-else-m-s c = let a = c.args in simp (le-ltb a.m a.s (omega arith))
