use mathlib.Core.Path.{◌≡◌, ◌∙◌, ap, sym}
use Prim.Native.Nat.{ℕ}
use native.Mathlib.Omega.{arith}
use lib.ListN.{length}
use Rattle.picture.specs.Buffers.{line_of}
use Rattle.points.specs.Points.{points_below}
use Rattle.points.proofs.Points.{count_le, row_first, row_next}
use Rattle.points.proofs.nonzeros.Goals as goal

pub loop-i-init : goal.loop-i-init
loop-i-init c =
    let n = c.next_nonzero-i.ensures in
    (n.high, n.found, sym (ap length (row_first c.args.row.now c.next_nonzero-i.result n)))

pub overflow_add-count : goal.overflow_add-count
overflow_add-count c =
    let l = c.loop-i in
    omega (arith, l.invariant.2, count_le (line_of c.args.row.now) l.i)

pub loop-i-smaller : goal.loop-i-smaller
loop-i-smaller c = omega (arith, c.next_nonzero-i-in-loop-i.ensures.low)

pub loop-i-preserved : goal.loop-i-preserved
loop-i-preserved c =
    let l = c.loop-i in
    let n = c.next_nonzero-i-in-loop-i.ensures in
    let more = row_next c.args.row.now l.i c.next_nonzero-i-in-loop-i.result (l.invariant.1 (omega arith)) n in
    (n.high, n.found, omega (arith, more, l.invariant.2))

pub returns : goal.returns
returns c =
    let l = c.loop-i in
    let row = c.args.row.now in
    let e : l.i ≡ length row = omega arith in
    l.invariant.2 ∙ ap (λ (k : ℕ). length (points_below (line_of row) k)) e
