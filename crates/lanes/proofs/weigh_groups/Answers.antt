use mathlib.Core.Path.{refl, ◌∙◌}
use Prim.Native.Nat.{◌+◌, ◌≤◌}
use native.Mathlib.Omega.{arith}
use Rattle.picture.proofs.Spans.{span_none, span_join}
use Rattle.lanes.proofs.Taps.{reach}
use Rattle.lanes.proofs.Groups.{group, group_made}
use Rattle.lanes.proofs.weigh_groups.Goals as goal
use Rattle.lanes.proofs.weigh_groups.Goals.{In-loop-i}

-- the group of a turn ends within the lanes
ends : (c : In-loop-i) → c.loop-i.i + c.args.size ≤ c.args.n
ends c = omega (arith, c.loop-i-test.true, c.loop-i.invariant.1, c.requires.fact_3)

pub weigh_group-requires : goal.weigh_group-requires
weigh_group-requires c =
    let e = ends (goal.at.weigh_group-requires c).In-loop-i in
    let a = c.args in
    let i = c.loop-i.invariant in
    record { fact_1 = omega (arith, i.3.size); fact_2 = omega (arith, i.2); fact_3 = group a.line.now a.weights.now a.a a.step c.loop-i.i a.size c.requires.fact_4 e }

pub loop-i-preserved : goal.loop-i-preserved
loop-i-preserved c =
    let a = c.args in
    let i = c.loop-i.invariant in (
      omega (arith, i.0),
      ends (goal.at.loop-i-preserved c).In-loop-i,
      c.weigh_group.auto.acc ∙ i.2,
      span_join i.0 (omega arith) i.3 (group_made a.line.now a.weights.now a.a a.step c.loop-i.i a.size c.weigh_group.ensures),
    )

pub returns : goal.returns
returns c =
    let i = c.loop-i.invariant in
    (record { from = i.0; to = i.1; left = omega (arith, c.loop-i-test.false, i.1) }, i.3)

pub loop-i-init : goal.loop-i-init
loop-i-init c = (omega arith, omega arith, refl, span_none (omega arith))

pub overflow_add-o : goal.overflow_add-o
overflow_add-o c = let e = ends (goal.at.overflow_add-o c).In-loop-i in omega arith

pub overflow_add-a : goal.overflow_add-a
overflow_add-a c =
    let e = ends (goal.at.overflow_add-a c).In-loop-i in
    let w = c.requires.fact_4.reaches in
    omega (arith, reach w 0 w.some)

pub overflow_add-i : goal.overflow_add-i
overflow_add-i c = let e = ends (goal.at.overflow_add-i c).In-loop-i in omega arith

pub loop-i-smaller : goal.loop-i-smaller
loop-i-smaller c = let e = ends (goal.at.loop-i-smaller c).In-loop-i in omega (arith, c.requires.fact_3)

pub shape_of-dst : goal.shape_of-dst
shape_of-dst c = c.loop-i.invariant.3.size
