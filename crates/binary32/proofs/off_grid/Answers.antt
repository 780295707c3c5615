use Rattle.std.proofs.Common.{◌≡◌, ◌+◌, ◌≤◌, drop, sym, ◌∙◌, arith}
use Rattle.binary32.specs.Grid.{off_grid}
use Rattle.binary32.proofs.Grid.{of_grid, answered_on, answered_off}
use Rattle.binary32.proofs.Kernels.{weight, off_from, off_none, off_end, off_far, off_here, off_step}
use Rattle.binary32.proofs.off_grid.Goals as goal
use Rattle.binary32.proofs.off_grid.Goals.{In-Some}

pub loop-x-init : goal.loop-x-init
loop-x-init c = (omega arith, off_none c.args.xs.now)

pub returns-in_default : goal.returns-in_default
returns-in_default c =
    let xs = c.args.xs.now in
    let off = answered_off (weight xs c.loop-x.x-index) (sym c.in_default.is ∙ c.numerator_of.ensures) in
    sym (c.loop-x.invariant.1 ∙ off_here c.loop-x.sum xs c.loop-x.x-index (omega arith) off)

-- weight `i` is on the grid, and its numerator joins the sum
joined : (c : In-Some) →
    let xs = c.args.xs.now in
    let m = c.in-Some.m in
    (m ≤ 65536) × (off_grid xs ≡ off_from (c.loop-x.sum + m) (drop (c.loop-x.x-index + 1) xs))
joined c =
    let xs = c.args.xs.now in
    let x = weight xs c.loop-x.x-index in
    let on = answered_on x c.in-Some.m (sym c.in-Some.is ∙ c.numerator_of.ensures) in
    (rw on.1 (of_grid x on.0).0, c.loop-x.invariant.1 ∙ off_step c.loop-x.sum xs c.loop-x.x-index (omega arith) on.0 ∙ rw on.1)

pub overflow_add-sum : goal.overflow_add-sum
overflow_add-sum c = let j = joined (goal.at.overflow_add-sum c).In-Some in omega arith

pub returns-then-sum-gt65536 : goal.returns-then-sum-gt65536
returns-then-sum-gt65536 c = sym ((joined (goal.at.returns-then-sum-gt65536 c).In-Some).1 ∙ off_far _ _ c.if-sum-gt65536.true)

pub loop-x-preserved : goal.loop-x-preserved
loop-x-preserved c = (omega arith, (joined (goal.at.loop-x-preserved c).In-Some).1)

pub returns : goal.returns
returns c =
    sym (c.loop-x.invariant.1 ∙ off_end c.loop-x.sum c.args.xs.now c.loop-x.x-index (omega arith))
