-- Body 0 starts where an entry `count` would stand.
use mathlib.Core.Path.{◌∙◌, ap}
use Rattle.plate_format.specs.Format.{entry_at, body_offset}
use Rattle.plate_format.proofs.table_end.Goals as goal

pub returns : goal.returns
unfolding body_offset
returns c = c.entry_at.ensures ∙ ap (entry_at _) c.count.ensures
