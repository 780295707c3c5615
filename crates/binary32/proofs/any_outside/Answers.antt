use Rattle.std.proofs.Common.{◌≡◌, ◌+◌, ◌||◌, drop, sym, refl, ◌∙◌, arith, drop_of_length-le}
use Rattle.binary32.specs.Ranges.{any_of, outside_unit, any_outside}
use Rattle.binary32.proofs.Ranges.{any_step}
use Rattle.binary32.proofs.any_outside.Goals as goal
use Rattle.binary32.proofs.any_outside.Lts as lts
use Rattle.binary32.proofs.any_outside.Reads as reads
use Rattle.binary32.proofs.any_outside.Tie as tie

abbrev the_After-outside_unit : Type 0
the_After-outside_unit = lts.After-outside_unit tie.the-claims reads.Pre reads.Post goal.the-invariant-loop-x goal.the-decreases-loop-x

pub loop-x-init : goal.loop-x-init
loop-x-init c = refl

-- what the test at `i` and the later values say together
looked : (c : the_After-outside_unit) →
    let xs = c.args.xs.now in
    any_of outside_unit xs ≡ (c.outside_unit.result || any_of outside_unit (drop (c.loop-x.x-index + 1) xs))
looked c =
    c.loop-x.invariant ∙ any_step outside_unit c.args.xs.now c.loop-x.x-index (omega arith) ∙ rw (sym c.outside_unit.ensures)

pub returns-then-outside_unit : goal.returns-then-outside_unit
unfolding any_outside
returns-then-outside_unit c = sym (looked c.before.before ∙ rw c.if-outside_unit.true)

pub loop-x-preserved : goal.loop-x-preserved
loop-x-preserved c = looked c.before.before ∙ rw c.if-outside_unit.false

pub returns : goal.returns
unfolding any_outside
returns c =
    sym (c.loop-x.invariant ∙ rw (drop_of_length-le c.args.xs.now {i = c.loop-x.x-index} (omega arith)))
