use mathlib.Core.Path.{◌≡◌, refl, ap, ◌∙◌}
use mathlib.Core.List.{List}
use Prim.Native.Nat.{ℕ, ◌≤◌}
use native.Mathlib.Omega.{arith}
use lib.ListN.{length, get_or, drop, length-append, length-drop, get_or-append, get_or-replicate}
use lib.Seq.{length-take-le}
use Rattle.picture.proofs.Sizes.{room_is}
use Rattle.picture.proofs.Spans.{span_at}
use Rattle.passes.proofs.Taps.{few_taps}
use Rattle.grid_sums.proofs.Sums.{numerator_fits}
use Rattle.grid_sums.proofs.Lanes.{part_none, part_more, part_all, part_fits}
use Rattle.grid_sums.proofs.add_taps.Goals as goal
use Rattle.grid_sums.proofs.add_taps.Goals.{At-loop-j}

kept : (l : At-loop-j) → length l.loop-j.acc ≡ length l.args.acc.now
kept l =
    let a = l.args in
    l.loop-j.invariant.0 ∙ simp (length-append, length-drop) (omega (arith, l.fill.auto.self, length-take-le a.run.n a.acc.now l.requires.fact_1))

pub loop-j-init : goal.loop-j-init
loop-j-init c =
    let a = c.args in (
      refl,
      (λ i h.
          get_or-append c.fill.new.self (drop a.run.n a.acc.now) 0 i (omega (arith, c.fill.auto.self, length-take-le a.run.n a.acc.now c.requires.fact_1))
          ∙ ap (λ (l : List ℕ). get_or l i 0) (c.fill.ensures.after (λ _ e. e))
          ∙ get_or-replicate _ i 0 0 (omega (arith, length-take-le a.run.n a.acc.now c.requires.fact_1))
          ∙ part_none a.mode a.numerators.now a.src.now a.start a.len a.stride a.run.x a.run.from i),
    )

pub add_sample-requires : goal.add_sample-requires
add_sample-requires c =
    let l = (goal.at.add_sample-requires c).At-loop-j in
    let a = c.args in
    let j = c.loop-j.j in
    let r = c.requires.fact_3 in
    let k = c.requires.fact_2 in
    let few = few_taps _ k.counted in
    let bytes : (b : ℕ) → get_or a.src.now b 0 ≤ 255 = λ b. omega (arith, c.type_inv.src b) in record { fact_1 = (omega (arith, kept l, c.requires.fact_1), numerator_fits k j c.loop-j-test.true); fact_2 = (λ i h. omega (arith, c.loop-j.invariant.1 i h, part_fits a.mode a.numerators.now a.src.now a.start a.len a.stride a.run.x a.run.from i k bytes j (omega arith))); fact_3 = (r.stride_low, r.end); fact_4 = record { s_low = omega (arith, r.x_high); s_high = r.len_high; c_high = omega (arith, room_is, r.x_high, r.len_high); d_high = omega arith }; fact_5 = r.tap j c.loop-j-test.true }

pub loop-j-preserved : goal.loop-j-preserved
loop-j-preserved c =
    let a = c.args in (
      c.add_sample.auto.acc ∙ c.loop-j.invariant.0,
      (λ i h.
          span_at c.add_sample.ensures i (omega arith) (omega arith) h
          ∙ part_more a.mode a.numerators.now a.src.now a.start a.len a.stride a.run.x a.run.from i c.loop-j.j (c.loop-j.invariant.1 i h)),
    )

pub returns : goal.returns
returns c =
    let a = c.args in
    let e : c.loop-j.j ≡ length a.numerators.now = omega arith in
    λ i h.
    (rw e at c.loop-j.invariant.1) i h ∙ part_all a.mode a.numerators.now a.src.now a.start a.len a.stride a.run.x a.run.from i

pub overflow_add-run : goal.overflow_add-run
overflow_add-run c = omega (arith, room_is, c.requires.fact_3.x_high, c.requires.fact_3.len_high, few_taps _ c.requires.fact_2.counted)

pub shape_of-acc : goal.shape_of-acc
shape_of-acc c = kept (goal.at.shape_of-acc c).At-loop-j
