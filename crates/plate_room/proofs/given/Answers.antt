-- Each way out is one case of the definition.
use mathlib.Core.Path.{◌≡◌, ◌∙◌, sym}
use mathlib.Core.Bool.{true}
use native.Mathlib.Omega.{arith}
use Rattle.plate_numbers.specs.Numbers.{labelled}
use Rattle.plate_room.specs.Room.{given}
use Rattle.plate_room.proofs.given.Goals as goal
use Rattle.plate_room.proofs.given.Goals.{Then-labelled}

there : (c : Then-labelled) → labelled c.args.v ≡ true
there c = sym c.labelled.ensures ∙ c.if-labelled.true

pub overflow_cast-result : goal.overflow_cast-result
overflow_cast-result c = omega (arith, c.requires (there c))

pub returns-then-labelled : goal.returns-then-labelled
unfolding given
returns-then-labelled c = rw (there c)

pub returns-else-labelled : goal.returns-else-labelled
unfolding given
returns-else-labelled c = rw (sym c.labelled.ensures ∙ c.if-labelled.false)
