-- Each way out is one part of the definition's "and".
use mathlib.Core.Path.{◌∙◌, sym}
use Rattle.plate_numbers.specs.Numbers.{wrong_unit}
use Rattle.plate_numbers.proofs.wrong_unit.Goals as goal

pub returns-then-not-labelled : goal.returns-then-not-labelled
unfolding wrong_unit
returns-then-not-labelled c = rw (sym c.labelled.ensures ∙ c.if-not-labelled.true)

pub returns : goal.returns
unfolding wrong_unit
returns c = rw (sym c.labelled.ensures ∙ c.if-not-labelled.false) c.zero_or_above.ensures
