-- Each arm is the inside of its kind.
use mathlib.Core.Path.{◌≡◌}
use Prim.Native.Nat.{◌+◌, ◌*◌}
use native.Mathlib.Omega.{arith}
use Rattle.picture.proofs.Sizes.{room_is}
use Rattle.picture.proofs.Spans.{scale, span_none, span_join}
use Rattle.resize.specs.declared.Resize.TheVariants.{Halve, Double}
use Rattle.resize.specs.Resize.{inner_to}
use Rattle.resize.proofs.Outputs.{room_less}
use Rattle.resize.proofs.resize_inner.Goals as goal

pub loop-x-preserved : goal.loop-x-preserved
loop-x-preserved c =
    let stride = c.args.stride in
    let x = c.loop-x.x in
    λ mode.
    span_join (omega (arith, scale 0 stride 1 x (omega arith))) (omega (arith, scale 0 stride x (x + 1) (omega arith))) (c.loop-x.invariant mode) (c.halve_inside.ensures mode)

pub returns-after-loop-x : goal.returns-after-loop-x
returns-after-loop-x c =
    let e : c.loop-x.x ≡ inner_to Halve c.args.len = omega arith in
    simp c.in-Halve.is (rw e at c.loop-x.invariant)

pub loop-y-preserved : goal.loop-y-preserved
loop-y-preserved c =
    let stride = c.args.stride in
    let y = c.loop-y.y in
    let q : 2 * y + 3 ≡ 2 * (y + 1) + 1 = omega arith in
    λ mode.
    rw q at
    (span_join (omega (arith, scale 0 stride 1 (2 * y + 1) (omega arith))) (omega (arith, scale 0 stride (2 * y + 1) (2 * y + 3) (omega arith))) (c.loop-y.invariant mode) (c.double_inside.ensures mode))

pub returns-after-loop-y : goal.returns-after-loop-y
returns-after-loop-y c =
    let e : 2 * c.loop-y.y + 1 ≡ inner_to Double c.args.len = omega arith in
    simp c.in-Double.is (rw e at c.loop-y.invariant)
