use mathlib.Core.Path.{refl, ◌∙◌}
use Prim.Native.Nat.{◌+◌, ◌-◌, ◌%◌, ◌≤◌, ◌<◌, min}
use native.Mathlib.Nat.{mul-le-mul_left, mod-lt}
use native.Mathlib.Omega.{arith}
use lib.ListN.{length}
use Rattle.block_sums.specs.Room.{lanes}
use Rattle.blocks.proofs.Progress.{made_none, made_in, made_join}
use Rattle.block_sums.proofs.convolve_strips.Goals as goal
use Rattle.block_sums.proofs.convolve_strips.Goals.{After-min-n}

pub loop-from-init : goal.loop-from-init
loop-from-init c = (omega arith, refl, refl, made_none (λ j r. omega arith))

-- the lanes of a turn
width : (c : After-min-n) →
    let n = c.min-n.result in
    let stride = c.args.stride in (0 < n) × (c.loop-from.from + n ≤ stride) × (n ≤ min stride lanes)
width c = let e = c.min-n.ensures in let t = c.loop-from-test.true in (omega arith, omega arith, omega arith)

pub convolve_strip-requires : goal.convolve_strip-requires
convolve_strip-requires c =
    let i = c.loop-from.invariant in
    let n = width (goal.at.convolve_strip-requires c).After-min-n in
    record {
      fact_1 = c.requires.fact_1;
      fact_2 = c.requires.fact_2;
      fact_3 = omega (arith, c.requires.fact_3, i.2);
      fact_4 = omega (arith, mul-le-mul_left (c.args.m + (length c.args.weights.now - 1)) n.2, c.requires.fact_4, i.1);
      fact_5 = (n.0, n.1);
    }

pub loop-from-preserved : goal.loop-from-preserved
loop-from-preserved c =
    let i = c.loop-from.invariant in
    let k = c.convolve_strip.auto in (
      (width (goal.at.loop-from-preserved c).After-min-n).1,
      k.line ∙ i.1,
      k.dst ∙ i.2,
      made_join (λ j. j % c.args.stride) c.loop-from.from i.3 c.convolve_strip.ensures (λ j r u. omega arith) (λ j r u. omega arith),
    )

pub returns : goal.returns
returns c =
    made_in c.loop-from.invariant.3 (λ j r. (r, omega (arith, c.loop-from-test.false, mod-lt j c.requires.fact_1.stride_low)))

pub overflow_add-from : goal.overflow_add-from
overflow_add-from c = omega (arith, width (goal.at.overflow_add-from c).After-min-n)

pub loop-from-smaller : goal.loop-from-smaller
loop-from-smaller c = omega (arith, width (goal.at.loop-from-smaller c).After-min-n)

pub shape_of-line : goal.shape_of-line
shape_of-line c = c.loop-from.invariant.1

pub shape_of-dst : goal.shape_of-dst
shape_of-dst c = c.loop-from.invariant.2
