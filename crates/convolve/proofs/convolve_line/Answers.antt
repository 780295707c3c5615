use mathlib.Core.Path.{refl, ◌∙◌}
use Prim.Native.Nat.{◌+◌, ◌/◌, ◌≤◌, ◌<◌}
use native.Mathlib.Nat.{div-lt_iff_lt-mul}
use native.Mathlib.Omega.{arith}
use Rattle.blocks.proofs.Progress.{made_none, made_join}
use Rattle.convolve.proofs.Room.{room_still}
use Rattle.convolve.proofs.convolve_line.Goals as goal
use Rattle.convolve.proofs.convolve_line.Goals.{After-min-m}

pub loop-x-init : goal.loop-x-init
loop-x-init c = (omega arith, refl, refl, made_none (λ j r. omega arith))

-- the elements of a turn
size : (c : After-min-m) →
    let m = c.min-m.result in (0 < m) × (c.loop-x.x + m ≤ c.args.len) × (m ≤ c.args.most)
size c =
    omega (arith, c.requires.fact_3.some, c.loop-x-test.true, c.min-m.ensures)

pub convolve_block-requires : goal.convolve_block-requires
convolve_block-requires c =
    let i = c.loop-x.invariant in
    let n = size (goal.at.convolve_block-requires c).After-min-m in
    record {
      fact_1 = c.requires.fact_1;
      fact_2 = n.1;
      fact_3 = omega (arith, c.requires.fact_2, i.2);
      fact_4 = room_still c.requires.fact_3 i.1 n.0 n.2;
    }

pub loop-x-preserved : goal.loop-x-preserved
loop-x-preserved c =
    let i = c.loop-x.invariant in
    let k = c.convolve_block.auto in (
      (size (goal.at.loop-x-preserved c).After-min-m).1,
      k.line ∙ i.1,
      k.dst ∙ i.2,
      made_join (λ j. j / c.args.stride) c.loop-x.x i.3 c.convolve_block.ensures (λ j r u. u) (λ j r u. (u, r)),
    )

pub returns : goal.returns
returns c =
    λ j h. c.loop-x.invariant.3.makes j (omega (arith, c.loop-x-test.false, (div-lt_iff_lt-mul c.requires.fact_1.stride_low).1 h))

pub overflow_add-x : goal.overflow_add-x
overflow_add-x c = omega (arith, size (goal.at.overflow_add-x c).After-min-m)

pub loop-x-smaller : goal.loop-x-smaller
loop-x-smaller c = omega (arith, size (goal.at.loop-x-smaller c).After-min-m)

pub shape_of-line : goal.shape_of-line
shape_of-line c = c.loop-x.invariant.1

pub shape_of-dst : goal.shape_of-dst
shape_of-dst c = c.loop-x.invariant.2
