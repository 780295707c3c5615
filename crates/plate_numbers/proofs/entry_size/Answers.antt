-- Each way out is one case of the definition.
use mathlib.Core.Path.{◌∙◌, sym}
use Rattle.plate_numbers.proofs.Versions.{with_label, without_label}
use Rattle.plate_numbers.proofs.entry_size.Goals as goal

pub returns-then-labelled : goal.returns-then-labelled
returns-then-labelled c = sym (with_label _ (sym c.labelled.ensures ∙ c.if-labelled.true))

pub returns-else-labelled : goal.returns-else-labelled
returns-else-labelled c = sym (without_label _ (sym c.labelled.ensures ∙ c.if-labelled.false))
