use mathlib.Core.Path.{◌≡◌, refl, ap, ◌∙◌}
use Prim.Native.Nat.{ℕ, ◌+◌, ◌*◌, ◌≤◌}
use native.Mathlib.Nat.{add-mul, one-mul, zero-mul}
use native.Mathlib.Omega.{arith}
use lib.ListN.{length}
use Rattle.shift.specs.Bytes.{columns_zeroed}
use Rattle.picture.proofs.Walk.{below_none, below_done}
use Rattle.shift.proofs.Columns.{row_fits, blank_columns, row_turn}
use Rattle.shift.proofs.clear_each.Goals as goal
use Rattle.shift.proofs.clear_each.Goals.{After-clear_run-arg-1}

pub loop-y-init : goal.loop-y-init
loop-y-init c =
    let a = c.args in
    (refl, rw (zero-mul a.w) (below_none a.bytes.now (blank_columns a.w a.start a.n a.bytes.now) 0 (λ j l. absurd (omega arith))))

-- a row's columns lie inside
room : (c : After-clear_run-arg-1) → let a = c.args in c.loop-y.y * a.w + a.w ≤ length a.bytes.now
room c =
    let a = c.args in
    omega (arith, row_fits a.w a.h c.loop-y.y (omega arith))

pub overflow_mul-y : goal.overflow_mul-y
overflow_mul-y c = omega (arith, room c)

pub overflow_add-y : goal.overflow_add-y
overflow_add-y c = omega (arith, room c)

pub clear_run-requires : goal.clear_run-requires
clear_run-requires c = omega (arith, room c)

pub loop-y-preserved : goal.loop-y-preserved
loop-y-preserved c =
    let a = c.args in (
      omega arith,
      c.clear_run.ensures
          ∙ rw (c.loop-y.invariant.1, add-mul c.loop-y.y 1 a.w, one-mul a.w) (row_turn a.bytes.now a.w a.start a.n c.loop-y.y (omega arith)),
    )

pub returns : goal.returns
unfolding columns_zeroed
returns c =
    let a = c.args in
    let all : c.loop-y.y * a.w ≡ a.h * a.w = ap (λ (y : ℕ). y * a.w) (omega arith) in
    c.loop-y.invariant.1 ∙ below_done a.bytes.now (blank_columns a.w a.start a.n a.bytes.now) (c.loop-y.y * a.w) (λ j l m. absurd (omega arith))
