-- Inside, the lanes that a tap reads lie in one run; in one element they are that element's, or nothing where it is outside.
use mathlib.Core.Path.{◌≡◌, sym, ap, ◌∙◌}
use Prim.Native.Nat.{ℕ, ◌+◌, ◌*◌, ◌≤◌, ◌<◌, ◌^◌}
use native.Mathlib.Nat.{add-zero, zero-mul}
use native.Mathlib.Omega.{arith}
use lib.ListN.{length, get_or}
use Rattle.std.proofs.Common.{Some}
use Rattle.picture.proofs.Spans.{within, span_same}
use Rattle.edges.specs.Edges.{place}
use Rattle.edges.proofs.Places.{below, found_below}
use Rattle.grid_sums.proofs.Lanes.{run_still, lane_inner, lane_inside, lane_outside}
use Rattle.grid_sums.proofs.add_sample.Goals as goal
use Rattle.grid_sums.proofs.add_sample.Goals.{In-Some}

-- a sum with a sample in its numerator
more : (a k : ℕ) {v w : ℕ} → v ≡ w → a + v * k ≡ a + w * k
more a k e = ap (λ (b : ℕ). a + b * k) e

module _ (c : In-Some) where
  is_inside : let a = c.args in place a.mode a.len a.c a.d ≡ Some c.in-Some.i
  is_inside = sym c.extend.ensures ∙ c.in-Some.is

  narrow : let a = c.args in a.run.from + a.run.n ≤ a.stride
  narrow = c.requires.fact_5.edge c.if-run.false

  one_ends : let a = c.args in
      (a.start + (c.in-Some.i * a.stride + a.run.from) + a.run.n ≤ length a.src.now) × (length a.src.now < 2 ^ 64)
  one_ends =
      let a = c.args in
      let i = c.in-Some.i in
      let low : i < a.len = found_below (below a.mode a.len a.c a.d c.requires.fact_4.s_low) is_inside in
      (omega (arith, within 0 a.stride i a.len low, c.requires.fact_3, narrow), c.well_formed.1.0.0)

pub add_tap-requires : goal.add_tap-requires
add_tap-requires c = record { fact_1 = c.requires.fact_1.0; fact_2 = omega (arith, c.requires.fact_5.inside c.if-run.true); fact_3 = c.requires.fact_1.1; fact_4 = c.requires.fact_2 }

pub add_tap-requires-in-Some : goal.add_tap-requires-in-Some
add_tap-requires-in-Some c = record { fact_1 = c.requires.fact_1.0; fact_2 = (one_ends (goal.at.add_tap-requires-in-Some c).In-Some).0; fact_3 = c.requires.fact_1.1; fact_4 = c.requires.fact_2 }

pub returns-then-run : goal.returns-then-run
returns-then-run c =
    let ends = c.requires.fact_5.inside c.if-run.true in
    let a = c.args in
    span_same c.add_tap.ensures
    (λ i l h. more _ a.k (lane_inner a.mode a.src.now a.start a.len a.stride a.run.from a.c a.d i a.run.n c.requires.fact_3.0 ends.0 ends.1 h))

pub returns-in-Some : goal.returns-in-Some
returns-in-Some c =
    let u = (goal.at.returns-in-Some c).In-Some in
    let a = c.args in
    span_same c.add_tap-in-Some.ensures
    (λ i l h. more _ a.k (lane_inside a.mode a.src.now a.start a.len a.stride a.run.from a.c a.d i (omega (arith, narrow u)) _ (is_inside u)))

pub returns-in_default : goal.returns-in_default
returns-in_default c =
    let a = c.args in
    run_still
    (λ i h.
    sym (add-zero _)
    ∙ ap (λ (v : ℕ). get_or a.acc.now i 0 + v) (sym (zero-mul a.k))
    ∙ more _ a.k
    (lane_outside a.mode a.src.now a.start a.len a.stride a.run.from a.c a.d i (omega (arith, c.requires.fact_5.edge c.if-run.false)) (sym c.extend.ensures ∙ c.in_default.is)))

pub overflow_sub-c : goal.overflow_sub-c
overflow_sub-c c = (c.requires.fact_5.inside c.if-run.true).0

pub overflow_mul-c : goal.overflow_mul-c
overflow_mul-c c = omega (arith, c.requires.fact_5.inside c.if-run.true)

pub overflow_add-c : goal.overflow_add-c
overflow_add-c c = omega (arith, c.requires.fact_5.inside c.if-run.true)

pub overflow_add-start : goal.overflow_add-start
overflow_add-start c = omega (arith, c.requires.fact_5.inside c.if-run.true)

pub overflow_mul-i : goal.overflow_mul-i
overflow_mul-i c = omega (arith, one_ends (goal.at.overflow_mul-i c).In-Some)

pub overflow_add-i : goal.overflow_add-i
overflow_add-i c = omega (arith, one_ends (goal.at.overflow_add-i c).In-Some)

pub overflow_add-start-in-Some : goal.overflow_add-start-in-Some
overflow_add-start-in-Some c = omega (arith, one_ends (goal.at.overflow_add-start-in-Some c).In-Some)
