-- Each way out is one case of the definition.
use mathlib.Core.Path.{◌∙◌, sym}
use Rattle.picture.specs.Sizes.{max_side}
use Rattle.plate_numbers.specs.Numbers.{largest_side}
use Rattle.plate_numbers.proofs.largest_side.Goals as goal

pub returns-then-larger : goal.returns-then-larger
unfolding largest_side max_side
returns-then-larger c = rw (sym c.larger.ensures ∙ c.if-larger.true)

pub returns-else-larger : goal.returns-else-larger
unfolding largest_side
returns-else-larger c = rw (sym c.larger.ensures ∙ c.if-larger.false)
