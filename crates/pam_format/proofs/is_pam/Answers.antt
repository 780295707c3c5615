-- The sides are those that stand in the file.
use mathlib.Core.Path.{ap₂, ◌∙◌}
use Rattle.pam_format.specs.Format.{has_sides}
use Rattle.pam_format.proofs.is_pam.Goals as goal

pub returns : goal.returns
returns c = c.has_sides.ensures ∙ ap₂ (has_sides _) c.width_in.ensures c.height_in.ensures
