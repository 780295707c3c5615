-- The run ends with its element, or goes on where each tap reads inside.
use mathlib.Core.Path.{refl}
use Prim.Native.Nat.{◌-◌, ◌*◌, ◌/◌, ◌≤◌, ◌<◌}
use native.Mathlib.Nat.{mod-lt}
use native.Mathlib.Omega.{arith}
use Rattle.picture.proofs.Sizes.{room_is}
use Rattle.passes.proofs.Taps.{few_taps}
use Rattle.whole_lines.proofs.Runs.{element, edge_run, inner_ends, inner_run}
use Rattle.whole_lines.proofs.run_at.Goals as goal
use Rattle.whole_lines.proofs.run_at.Goals.{Then-x-after}

-- each tap of the run reads inside
module _ (c : Then-x-after) where
  ends : let a = c.args in
      let after = a.taps - 1 - a.taps / 2 in
      (a.p < (a.len - after) * a.stride) × ((a.len - after) * a.stride ≤ a.len * a.stride)
  ends =
      let a = c.args in
      inner_ends a.len a.stride a.taps a.p c.requires.fact_2.0 c.requires.fact_2.2 _ refl c.if-x-after.true

pub overflow_add-x : goal.overflow_add-x
overflow_add-x c =
    let a = c.args in
    omega (arith, room_is, few_taps _ c.requires.fact_1, c.requires.fact_2.1, element a.len a.stride a.taps a.p c.requires.fact_2.0 c.requires.fact_2.2)

pub returns-then-x-after : goal.returns-then-x-after
returns-then-x-after c =
    let a = c.args in
    inner_run a.len a.stride a.taps a.p c.requires.fact_2.0 c.requires.fact_2.2 _ refl c.if-x-after.true c.if-d-x.true c.min.ensures

pub returns : goal.returns
returns c =
    let a = c.args in
    edge_run a.len a.stride a.taps a.p c.requires.fact_2.0 c.requires.fact_2.2 c.min-2.ensures

pub overflow_sub-after : goal.overflow_sub-after
overflow_sub-after c = omega (arith, few_taps _ c.requires.fact_1)

pub overflow_sub-after-2 : goal.overflow_sub-after-2
overflow_sub-after-2 c = omega (arith, few_taps _ c.requires.fact_1)

pub nonzero_div-x : goal.nonzero_div-x
nonzero_div-x c = c.requires.fact_2.0

pub nonzero_rem-from : goal.nonzero_rem-from
nonzero_rem-from c = c.requires.fact_2.0

pub overflow_mul-len : goal.overflow_mul-len
overflow_mul-len c = omega (arith, ends c, c.requires.fact_3)

pub overflow_sub-len-then-x-after : goal.overflow_sub-len-then-x-after
overflow_sub-len-then-x-after c = omega (arith, ends c)

pub overflow_sub-stride : goal.overflow_sub-stride
overflow_sub-stride c = omega (arith, mod-lt c.args.p c.requires.fact_2.0)
