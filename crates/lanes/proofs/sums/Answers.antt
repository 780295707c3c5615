use mathlib.Core.Path.{◌≡◌, refl, ap, ◌∙◌}
use Prim.Native.Nat.{◌+◌, ◌*◌, ◌≤◌}
use native.Mathlib.Omega.{arith}
use lib.ListN.{length, get_or, drop, get_or-append, get_or-replicate}
use lib.Ieee.{of_bits, nan}
use lib.Seq.{length-take-le}
use Rattle.picture.proofs.Spans.{span_at}
use Rattle.lanes.proofs.Taps.{reach, sum_none, sum_more}
use Rattle.lanes.proofs.sums.Goals as goal
use Rattle.lanes.proofs.sums.Goals.{In-loop-j}

-- the tap of a turn reads within the line
within : (c : In-loop-j) → let a = c.args in a.a + c.loop-j.j * a.step + a.n ≤ length a.line.now
within c = reach c.requires.fact_2 c.loop-j.j c.loop-j-test.true

pub loop-j-init : goal.loop-j-init
unfolding of_bits
loop-j-init c =
    let a = c.args in
    let filled = c.fill.ensures.after (λ _ e. e) in (
      refl,
      (λ i h.
          get_or-append c.fill.new.self (drop a.n a.acc.now) nan i (omega (arith, c.fill.auto.self, length-take-le a.n a.acc.now c.requires.fact_1))
          ∙ ap (λ l. get_or l i nan) filled
          ∙ get_or-replicate _ i _ nan (omega (arith, length-take-le a.n a.acc.now c.requires.fact_1))
          ∙ sum_none a.line.now a.a a.step a.weights.now i),
    )

pub add_tap-requires : goal.add_tap-requires
add_tap-requires c = record { fact_1 = omega arith; fact_2 = within (goal.at.add_tap-requires c).In-loop-j }

pub loop-j-preserved : goal.loop-j-preserved
loop-j-preserved c =
    let a = c.args in (
      c.add_tap.auto.acc ∙ c.loop-j.invariant.0,
      (λ i h.
          span_at c.add_tap.ensures i (omega arith) (omega arith) h ∙ sum_more a.line.now a.a a.step a.weights.now i c.loop-j.j (c.loop-j.invariant.1 i h) refl),
    )

pub returns : goal.returns
returns c =
    let all : c.loop-j.j ≡ length c.args.weights.now = omega (arith, c.loop-j-test.false) in
    rw all at c.loop-j.invariant.1

pub overflow_mul-j : goal.overflow_mul-j
overflow_mul-j c = let w = within (goal.at.overflow_mul-j c).In-loop-j in omega arith

pub overflow_add-a : goal.overflow_add-a
overflow_add-a c = let w = within (goal.at.overflow_add-a c).In-loop-j in omega arith
