-- A difference below s is c - d but for one size, and no sum wraps on the way.
use Rattle.std.proofs.Common.{◌+◌, arith}
use Rattle.picture.proofs.Sizes.{room_is}
use Rattle.edges.proofs.Places.{place_on, small_difference}
use Rattle.edges.proofs.wrap_near.Goals as goal

pub overflow_add-c : goal.overflow_add-c
overflow_add-c c = omega (arith, room_is)

pub overflow_add-d : goal.overflow_add-d
overflow_add-d c = omega (arith, room_is)

pub returns-then-c-d : goal.returns-then-c-d
returns-then-c-d c l =
    let a = c.args in
    let r = c.wrapping_sub_usize.result in
    let e = small_difference (a.c + a.s) a.d r a.s c.wrapping_sub_usize.ensures.value l (omega arith) (omega arith) in
    place_on a.s a.c a.d r 1 0 l (omega arith)

pub returns-else-c-d : goal.returns-else-c-d
returns-else-c-d c l =
    let a = c.args in
    let r = c.wrapping_sub_usize-else-c-d.result in
    let e = small_difference a.c (a.d + a.s) r a.s c.wrapping_sub_usize-else-c-d.ensures.value l (omega arith) (omega (arith, room_is)) in
    place_on a.s a.c a.d r 0 1 l (omega arith)
