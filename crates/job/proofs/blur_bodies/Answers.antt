use Prim.Native.Nat.{◌<◌}
use native.Mathlib.Omega.{arith}
use Rattle.plate_numbers.specs.Numbers.{count}
use Rattle.plate_format.proofs.Rules.{plate_tabled}
use Rattle.body_blur.proofs.Fixed.{keeps}
use Rattle.job.proofs.Turns.{turn_none, turn_ready, turn_more, turn_lengths, turn_all}
use Rattle.job.proofs.blur_bodies.Goals as goal

pub count-n-requires : goal.count-n-requires
count-n-requires c = omega (arith, (plate_tabled _ c.requires.0).inside)

pub table_end-start-requires : goal.table_end-start-requires
table_end-start-requires c = plate_tabled _ c.requires.0

pub loop-i-init : goal.loop-i-init
loop-i-init c =
    (c.count-n.ensures, rw c.table_end-start.ensures (turn_none keeps c.requires.0 c.requires.1))

-- body i is one of the plate's
pub blur_body-start-requires : goal.blur_body-start-requires
blur_body-start-requires c =
    let there : c.loop-i.i < count c.args.plate.now = rw (← c.loop-i.invariant.0) c.loop-i-test.true in
    turn_ready keeps c.loop-i.invariant.1 there

pub loop-i-preserved : goal.loop-i-preserved
loop-i-preserved c =
    let there : c.loop-i.i < count c.args.plate.now = rw (← c.loop-i.invariant.0) c.loop-i-test.true in
    (c.loop-i.invariant.0, turn_more keeps c.loop-i.invariant.1 there c.blur_body-start.ensures)

pub shape_of-plate : goal.shape_of-plate
shape_of-plate c = (turn_lengths keeps c.loop-i.invariant.1).0

pub shape_of-scratch : goal.shape_of-scratch
shape_of-scratch c = (turn_lengths keeps c.loop-i.invariant.1).1

pub returns : goal.returns
returns c = let t = c.loop-i.invariant in turn_all keeps t.1 (omega (arith, t.0, t.1.reached))
