-- A difference below s is that of the reflection's place, and no sum wraps on the way.
use Rattle.std.proofs.Common.{◌+◌, ◌-◌, ◌*◌, arith}
use Rattle.picture.proofs.Sizes.{room_is}
use Rattle.edges.proofs.Places.{place_back, small_difference}
use Rattle.edges.proofs.mirror_near.Goals as goal

pub overflow_mul-s : goal.overflow_mul-s
overflow_mul-s c = omega (arith, room_is)

pub overflow_add-d : goal.overflow_add-d
overflow_add-d c = omega (arith, room_is)

pub returns-then-c-d : goal.returns-then-c-d
returns-then-c-d c l = let a = c.args in place_back a.s a.c a.d (a.d - a.c - 1) 1 0 l (omega arith)

pub returns-else-c-d : goal.returns-else-c-d
returns-else-c-d c l =
    let a = c.args in
    let r = c.wrapping_sub_usize.result in
    let e = small_difference (a.d + 2 * a.s - 1) a.c r a.s c.wrapping_sub_usize.ensures.value l (omega arith) (omega arith) in
    place_back a.s a.c a.d r 0 0 l (omega arith)
