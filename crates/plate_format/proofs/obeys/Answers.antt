-- Each way out is one part of the definition's "and".
use mathlib.Core.Path.{◌≡◌, ◌∙◌, sym}
use mathlib.Core.Bool.{false}
use Rattle.picture.specs.Refusal.{wrong_length}
use Rattle.plate_format.specs.Format.{wrong_sides_of, obeys}
use Rattle.plate_format.proofs.obeys.Goals as goal
use Rattle.plate_format.proofs.obeys.Goals.{After-sides_outside, Else-sides_outside, Else-wrong_length}

asked : (c : After-sides_outside) → let a = c.args in c.sides_outside.result ≡ wrong_sides_of a.v a.e.width a.e.height
unfolding wrong_sides_of
asked c = c.sides_outside.ensures ∙ rw c.largest_side.ensures

pub returns-then-sides_outside : goal.returns-then-sides_outside
unfolding obeys
returns-then-sides_outside c = rw (sym (asked c.before) ∙ c.if-sides_outside.true)

sides : (c : Else-sides_outside) → let a = c.args in wrong_sides_of a.v a.e.width a.e.height ≡ false
sides c = sym (asked c.before) ∙ c.if-sides_outside.false

pub returns-then-wrong_length : goal.returns-then-wrong_length
unfolding obeys
returns-then-wrong_length c = rw (sides c.before.before.before, sym c.wrong_length.ensures ∙ c.if-wrong_length.true)

long : (c : Else-wrong_length) → let a = c.args in wrong_length a.e.length a.e.width a.e.height ≡ false
long c = sym c.wrong_length.ensures ∙ c.if-wrong_length.false

pub returns-then-wrong_unit : goal.returns-then-wrong_unit
unfolding obeys
returns-then-wrong_unit c = rw (sides c.before.before.before.before.before.before, long c.before.before.before, sym c.wrong_unit.ensures ∙ c.if-wrong_unit.true)

pub returns : goal.returns
unfolding obeys
returns c = rw (sides c.before.before.before.before.before.before.before, long c.before.before.before.before, sym c.wrong_unit.ensures ∙ c.if-wrong_unit.false)
