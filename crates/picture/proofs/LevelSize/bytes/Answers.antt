-- No product wraps: a level's sides have room.
use native.Mathlib.Omega.{arith}
use Rattle.picture.proofs.Sizes.{area}
use Rattle.picture.proofs.LevelSize.bytes.Goals as goal

pub overflow_mul-result : goal.overflow_mul-result
overflow_mul-result c = omega (arith, area c.requires)

pub overflow_mul-result-2 : goal.overflow_mul-result-2
overflow_mul-result-2 c = omega (arith, area c.requires)
