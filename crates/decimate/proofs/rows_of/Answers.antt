-- Each way is the definition's.
use native.Mathlib.Nat.{mul-le-mul}
use native.Mathlib.Omega.{arith}
use Rattle.picture.proofs.Sizes.{room_is}
use Rattle.decimate.proofs.rows_of.Goals as goal

pub overflow_add-w : goal.overflow_add-w
overflow_add-w c = omega (arith, room_is)

pub overflow_mul-result : goal.overflow_mul-result
overflow_mul-result c =
    omega (arith, mul-le-mul {n₁ = c.args.lines} {m₁ = c.args.lanes} {n₂ = 262144} {m₂ = 4} (omega (arith, c.requires.1, room_is)) c.requires.2)
