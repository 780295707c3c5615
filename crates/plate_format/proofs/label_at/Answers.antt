-- Each way out is one case of the definition.
use mathlib.Core.Path.{◌≡◌, ◌∙◌, sym}
use mathlib.Core.Bool.{true}
use Rattle.plate_numbers.specs.Numbers.{labelled}
use Rattle.plate_format.specs.Format.{label_at}
use Rattle.plate_format.proofs.label_at.Goals as goal
use Rattle.plate_format.proofs.label_at.Lts as lts
use Rattle.plate_format.proofs.label_at.Reads as reads
use Rattle.plate_format.proofs.label_at.Tie as tie

abbrev the_Then-labelled : Type 0
the_Then-labelled = lts.Then1 tie.the-claims reads.Pre reads.Post

there : (c : the_Then-labelled) → labelled c.args.v ≡ true
there c = sym c.labelled.ensures ∙ c.if-labelled.true

pub u16_at-requires : goal.u16_at-requires
u16_at-requires c = c.requires (there c.before)

pub returns-then-labelled : goal.returns-then-labelled
unfolding label_at
returns-then-labelled c = rw (there c.before.before, c.u16_at.ensures)

pub returns-else-labelled : goal.returns-else-labelled
unfolding label_at
returns-else-labelled c = rw (sym c.labelled.ensures ∙ c.if-labelled.false)
