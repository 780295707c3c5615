-- The values before the run, the run, and those after it, one after the other.
use mathlib.Core.Path.{◌≡◌}
use Prim.Native.Nat.{ℕ, ◌+◌, ◌-◌, ◌*◌, ◌≤◌, ◌<◌}
use native.Mathlib.Omega.{arith}
use Rattle.picture.proofs.Sizes.{room_is}
use Rattle.blocks.proofs.Progress.{made_run, made_join}
use Rattle.blocks.proofs.Values.{run_ends, run_fits, run_value}
use Rattle.blocks.proofs.fill_whole.Goals as goal
use Rattle.blocks.proofs.fill_whole.Goals.{After-min-high}

module _ (c : After-min-high) where
  abbrev low : ℕ
  low = c.saturating_sub-low.result

  abbrev high : ℕ
  high = c.min-high.result

  ends : let a = c.args in (low ≤ high) × (high ≤ a.count) × (a.d ≤ a.x + low) × (a.x + high ≤ a.len + a.d)
  ends = let a = c.args in run_ends a.x a.d a.len a.count low high c.saturating_sub-low.ensures c.min-high.ensures c.requires.fact_1.0 c.requires.fact_1.1

  fits : let a = c.args in
      (low * a.stride + (high - low) * a.stride ≡ high * a.stride) × (high * a.stride ≤ a.count * a.stride) × ((a.x + low - a.d) * a.stride + (high - low) * a.stride ≤ a.len * a.stride)
  fits = let a = c.args in run_fits a.x a.d a.len a.count low high c.saturating_sub-low.ensures c.min-high.ensures c.requires.fact_1.0 c.requires.fact_1.1 a.stride

pub fill-requires : goal.fill-requires
fill-requires c =
    let l = (goal.at.fill-requires c).After-min-high in
    let r = c.requires.fact_4 in
    record {
      fact_1 = (omega arith, omega (arith, fits l));
      fact_2 = omega arith;
      fact_3 = c.requires.fact_3;
      fact_4 = record { s_low = r.s_low; s_high = r.s_high; c_high = omega (arith, ends l); d_high = r.d_high };
    }

pub returns : goal.returns
returns c =
    let l = (goal.at.returns c).After-min-high in
    let a = c.args in
    let p = c.requires.fact_1 in
    made_join (λ k. k) (high l * a.stride)
    (made_join {T = λ k. k < high l * a.stride} (λ k. k) (low l * a.stride) c.fill.ensures
    (made_run c.widen.ensures (λ k h. run_value a.mode a.src.now a.start a.len a.stride a.x a.d (low l) (high l) k p.2 (ends l).2 (ends l).3 h))
    (λ k r u. omega arith)
    (λ k r u. omega (arith, fits l)))
    c.fill-2.ensures
    (λ k r u. omega arith)
    (λ k r u. omega arith)

pub overflow_add-len : goal.overflow_add-len
overflow_add-len c = omega (arith, room_is)

pub overflow_mul-low : goal.overflow_mul-low
overflow_mul-low c = let f = fits (goal.at.overflow_mul-low c).After-min-high in omega arith

pub overflow_mul-high : goal.overflow_mul-high
overflow_mul-high c = let f = fits (goal.at.overflow_mul-high c).After-min-high in omega arith

pub overflow_mul-x : goal.overflow_mul-x
overflow_mul-x c = let f = fits (goal.at.overflow_mul-x c).After-min-high in omega arith

pub overflow_add-start : goal.overflow_add-start
overflow_add-start c = let f = fits (goal.at.overflow_add-start c).After-min-high in omega arith

pub widen-requires : goal.widen-requires
widen-requires c = let f = fits (goal.at.widen-requires c).After-min-high in record { fact_1 = omega (arith, c.fill.auto.line); fact_2 = omega arith }
