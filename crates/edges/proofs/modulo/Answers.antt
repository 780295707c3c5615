-- The remainder is the definition's, and no sum wraps: the line has room, and the coordinate is not too far off.
use Rattle.std.proofs.Common.{◌-◌, ◌*◌, ◌≤◌, mul-le-mul, arith}
use Rattle.picture.specs.Sizes.{side_room}
use Rattle.picture.proofs.Sizes.{room_is}
use Rattle.edges.specs.Edges.{farthest}
use Rattle.edges.proofs.modulo.Goals as goal
use Rattle.edges.proofs.modulo.Goals.{Start}

product_fits : (c : Start) → c.args.d * (c.args.n - 1) ≤ farthest * (2 * side_room)
product_fits c = mul-le-mul {n₂ = farthest} {m₂ = 2 * side_room} (omega arith) (omega arith)

pub overflow_mul-result : goal.overflow_mul-result
overflow_mul-result c = omega (arith, room_is, product_fits c)

pub overflow_add-result : goal.overflow_add-result
overflow_add-result c = omega (arith, room_is, product_fits c)
