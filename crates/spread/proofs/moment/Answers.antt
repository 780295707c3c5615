use mathlib.Core.Path.{◌≡◌, ◌∙◌, sym}
use Prim.Native.Nat.{◌+◌, ◌*◌, ◌/◌, ◌≤◌}
use native.Mathlib.Nat.{add-zero}
use native.Mathlib.Omega.{arith}
use lib.ListN.{length, drop, drop_of_length-le}
use Rattle.spread.specs.Spread.{moment, moment_of}
use Rattle.spread.proofs.Moments.{moment_step, near, taps_fit, moment_fits}
use Rattle.spread.proofs.moment.Goals as goal
use Rattle.spread.proofs.moment.Goals.{After-numerator}

pub loop-j-init : goal.loop-j-init
unfolding moment_of
loop-j-init c = omega arith

-- this tap is one more of the whole
turn : (c : After-numerator) →
    let d = c.abs_diff-d.result in
    let ws = c.args.weights.now in
    (c.loop-j.sum + c.numerator.result * (d * d) + moment (length ws / 2) (c.loop-j.j + 1) (drop (c.loop-j.j + 1) ws) ≡ moment_of ws)
    × (moment_of ws ≤ 4294967296)
turn c =
    let ws = c.args.weights.now in (
      rw (c.numerator.ensures, c.abs_diff-d.ensures) (omega (arith, moment_step (length ws / 2) c.loop-j.j ws (omega arith))),
      moment_fits ws c.requires,
    )

pub overflow_mul-sum : goal.overflow_mul-sum
overflow_mul-sum c =
    let ws = c.args.weights.now in
    let few : length ws ≤ 256 = omega (arith, taps_fit, c.requires.taps) in
    rw c.abs_diff-d.ensures (omega (arith, near 256 (length ws / 2) c.loop-j.j (omega arith) (omega arith)))

pub overflow_mul-sum-in-loop-j : goal.overflow_mul-sum-in-loop-j
overflow_mul-sum-in-loop-j c = omega (arith, turn (goal.at.overflow_mul-sum-in-loop-j c).After-numerator)

pub overflow_add-sum : goal.overflow_add-sum
overflow_add-sum c = omega (arith, turn (goal.at.overflow_add-sum c).After-numerator)

pub loop-j-preserved : goal.loop-j-preserved
loop-j-preserved c = (turn (goal.at.loop-j-preserved c).After-numerator).0

pub returns : goal.returns
unfolding moment
returns c =
    let none = drop_of_length-le c.args.weights.now {i = c.loop-j.j} (omega arith) in
    sym (add-zero c.loop-j.sum) ∙ rw none at c.loop-j.invariant
