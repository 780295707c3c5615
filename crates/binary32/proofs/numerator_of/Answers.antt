-- `numerator_of` meets its contract: 65536 x is exact, and x is on the grid where its whole part is all of it.
use Rattle.std.proofs.Common.{◌≡◌, ◌≤◌, false, T, sym, ◌∙◌, subst, arith, le→leb}
use lib.Ieee.{binary32, fits, of_bits, in_float}
use Rattle.binary32.specs.Ranges.{outside_unit}
use Rattle.binary32.proofs.Grid.{part, outside_off, part_cut, part_le, part_below, part_all}
use Rattle.binary32.proofs.numerator_of.Goals as goal
use Rattle.binary32.proofs.numerator_of.Goals.{Start, Else-outside_unit, After-truncating_f32_to_u64-whole}

-- x fits its type
fit : (c : Start) → T (fits binary32 c.args.x)
fit c = subst T (sym c.well_formed.0.1) tt

pub returns-then-outside_unit : goal.returns-then-outside_unit
returns-then-outside_unit c = outside_off c.args.x (sym c.outside_unit.ensures ∙ c.if-outside_unit.true)

in-range : (c : Else-outside_unit) → outside_unit c.args.x ≡ false
in-range c = sym c.outside_unit.ensures ∙ c.if-outside_unit.false

pub truncating_f32_to_u64-whole-requires : goal.truncating_f32_to_u64-whole-requires
unfolding of_bits
truncating_f32_to_u64-whole-requires c =
    let s = c.before.before in
    let asks = (part_cut c.args.x (fit s) (in-range c)).0 in
    record { lower_bound = asks.0; upper_bound = asks.1 }

-- what the cut found
found : (c : After-truncating_f32_to_u64-whole) → let n = c.truncating_f32_to_u64-whole.result in (n ≡ part c.args.x) × (n ≤ 65536)
unfolding of_bits
found c =
    let s = c.before.before.before in
    let e = c.truncating_f32_to_u64-whole.ensures ∙ (part_cut c.args.x (fit s) (in-range c.before)).1 in
    (e, rw e (part_le c.args.x (fit s) (in-range c.before)))

pub int_to_float-whole : goal.int_to_float-whole
unfolding in_float
int_to_float-whole c = let f = found c.before.before in le→leb c.truncating_f32_to_u64-whole.result 16777216 (omega arith)

pub returns-then-whole-scaled : goal.returns-then-whole-scaled
unfolding of_bits
returns-then-whole-scaled c =
    let w = c.before.before in
    let s = w.before.before.before in
    part_below c.args.x (fit s) (in-range w.before) (rw (← (found w).0) c.if-whole-scaled.true)

pub overflow_cast-result : goal.overflow_cast-result
overflow_cast-result c = let f = found c.before.before in omega arith

pub returns : goal.returns
unfolding of_bits
returns c =
    let w = c.before.before in
    let s = w.before.before.before in
    rw (found w).0 (part_all c.args.x (fit s) (in-range w.before) (rw (← (found w).0) c.if-whole-scaled.false))
