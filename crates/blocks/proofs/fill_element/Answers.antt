-- Inside, the element's bytes are made floats; outside, a sample is 0.
use mathlib.Core.Path.{◌≡◌, sym, ap, ◌∙◌}
use Prim.Native.Nat.{ℕ, ◌+◌, ◌*◌, ◌≤◌}
use native.Mathlib.Nat.{add_assoc}
use native.Mathlib.Omega.{arith}
use lib.Ieee.{of_bits}
use lib.ListN.{get_or}
use Rattle.std.proofs.Common.{Some}
use Rattle.picture.proofs.Spans.{within, span_same}
use Rattle.edges.specs.Edges.{place}
use Rattle.edges.proofs.Places.{below, found_below}
use Rattle.passes.specs.Written.{lane}
use Rattle.lanes.specs.Lanes.{widened}
use Rattle.lanes.proofs.Filled.{run_filled}
use Rattle.blocks.proofs.Values.{placed, nothing}
use Rattle.blocks.proofs.fill_element.Goals as goal
use Rattle.blocks.proofs.fill_element.Goals.{In-Some}

module _ (c : In-Some) where
  is-inside : let a = c.args in place a.mode a.len a.c a.d ≡ Some c.in-Some.i
  is-inside = sym c.extend.ensures ∙ c.in-Some.is

  -- the element's bytes end within the line
  ends : let a = c.args in a.start + c.in-Some.i * a.stride + a.stride ≤ a.start + a.len * a.stride
  ends =
      let a = c.args in
      within a.start a.stride c.in-Some.i a.len
      (found_below (below a.mode a.len a.c a.d c.requires.fact_4.s_low) is-inside)

pub returns-in-Some : goal.returns-in-Some
returns-in-Some c =
    let a = c.args in
    let i = c.in-Some.i in
    span_same c.widen.ensures
    (λ k l h.
    ap widened
    (ap (λ (m : ℕ). get_or a.src.now m 0) (add_assoc (a.start + i * a.stride) a.from _)
    ∙ placed a.mode a.len a.c a.d (lane a.src.now a.start a.stride (a.from + _)) (is-inside (goal.at.returns-in-Some c).In-Some)))

pub returns-in-None : goal.returns-in-None
unfolding of_bits
returns-in-None c =
    let a = c.args in
    span_same (run_filled _ a.line.now _ a.a a.n _ c.requires.fact_1 (c.fill.ensures.after (λ _ e. e)))
    (λ k l h.
    sym nothing
    ∙ ap widened (placed a.mode a.len a.c a.d (lane a.src.now a.start a.stride (a.from + _)) (sym c.extend.ensures ∙ c.in-None.is)))

pub overflow_mul-i : goal.overflow_mul-i
overflow_mul-i c = let e = ends (goal.at.overflow_mul-i c).In-Some in omega arith

pub overflow_add-start : goal.overflow_add-start
overflow_add-start c = let e = ends (goal.at.overflow_add-start c).In-Some in omega arith

pub overflow_add-start-in-Some : goal.overflow_add-start-in-Some
overflow_add-start-in-Some c = let e = ends (goal.at.overflow_add-start-in-Some c).In-Some in omega arith

pub widen-requires : goal.widen-requires
widen-requires c = let e = ends (goal.at.widen-requires c).In-Some in record { fact_1 = c.requires.fact_1; fact_2 = omega arith }
