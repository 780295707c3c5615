use mathlib.Core.Path.{◌≡◌, ap, ◌∙◌}
use Prim.Native.Nat.{◌+◌, ◌*◌, ◌≤◌, ◌<◌}
use native.Mathlib.Omega.{arith}
use Rattle.shift.specs.Bytes.{along, zeroed}
use Rattle.shift.proofs.Columns.{row_fits}
use Rattle.shift.proofs.Rows.{staying, rows_split, turn_in, none_turned, row_turned, rows_moved}
use Rattle.shift.proofs.move_rows.Goals as goal
use Rattle.shift.proofs.move_rows.Goals.{After-loop-k, After-turn_row-r}

pub loop-k-init : goal.loop-k-init
loop-k-init c = let a = c.args in none_turned (along a.dx) a.dy a.w a.h a.bytes.now

-- the row that is moved, and the one it becomes, lie inside
room : (c : After-turn_row-r) →
    let r = c.turn_row-r.result in
    let a = c.args in
    (r < staying a.dy a.h) × ((r + a.dy.minus) * a.w + a.w ≤ a.h * a.w) × ((r + a.dy.plus) * a.w + a.w ≤ a.h * a.w)
room c =
    let a = c.args in
    let l = turn_in a.dy (staying a.dy a.h) c.loop-k.k (omega arith) in
    (omega arith, row_fits a.w a.h (c.turn_row-r.result + a.dy.minus) (omega arith), row_fits a.w a.h (c.turn_row-r.result + a.dy.plus) (omega arith))

pub overflow_add-r : goal.overflow_add-r
overflow_add-r c = omega (arith, room c.before)

pub overflow_mul-r : goal.overflow_mul-r
overflow_mul-r c = omega (arith, room c.before)

pub overflow_add-r-in-loop-k : goal.overflow_add-r-in-loop-k
overflow_add-r-in-loop-k c = omega (arith, room c.before)

pub overflow_mul-r-in-loop-k : goal.overflow_mul-r-in-loop-k
overflow_mul-r-in-loop-k c = omega (arith, room c.before)

pub move_run-requires : goal.move_run-requires
move_run-requires c = let f = room c.before in (omega arith, omega arith, c.requires.1, omega arith)

pub loop-k-preserved : goal.loop-k-preserved
loop-k-preserved c =
    let a = c.args in
    rw (c.move_run.ensures, c.turn_row-r.ensures)
    (row_turned (along a.dx) a.dy a.w a.h a.bytes.now c.requires.0 c.requires.2 c.requires.3 c.loop-k.k c.loop-k.bytes c.loop-k.invariant (omega arith))

-- the rows above and below
ends : (c : After-loop-k) →
    let a = c.args in
    let n = a.dy.plus + staying a.dy a.h in
    (a.dy.plus * a.w ≤ n * a.w) × (n * a.w + a.dy.minus * a.w ≡ a.h * a.w)
ends c = let a = c.args in rows_split a.dy a.w a.h c.requires.4

pub overflow_mul-down : goal.overflow_mul-down
overflow_mul-down c = omega (arith, ends c.before)

pub clear_run-requires : goal.clear_run-requires
clear_run-requires c = omega (arith, ends c.before)

pub overflow_add-down : goal.overflow_add-down
overflow_add-down c = omega (arith, ends c.before.before.before.before.before)

pub overflow_mul-down-2 : goal.overflow_mul-down-2
overflow_mul-down-2 c = omega (arith, ends c.before.before.before.before.before)

pub overflow_mul-up : goal.overflow_mul-up
overflow_mul-up c = omega (arith, ends c.before.before.before.before.before)

pub clear_run-requires-2 : goal.clear_run-requires-2
clear_run-requires-2 c = omega (arith, ends c.before.before.before.before.before)

pub returns : goal.returns
returns c =
    let a = c.args in
    let n = a.dy.plus + staying a.dy a.h in
    c.clear_run-2.ensures
    ∙ ap (zeroed (n * a.w) (a.dy.minus * a.w)) c.clear_run.ensures
    ∙ rows_moved (along a.dx) a.dy a.w a.h a.bytes.now c.requires.0 c.requires.2 c.requires.3 c.loop-k.k c.loop-k.bytes c.loop-k.invariant (omega arith) c.requires.4
