-- The pixel that the view has there, packed.
use mathlib.Core.Path.{◌∙◌, ap}
use mir.Syntax.{w32}
use mir.ValLaws.{to_z-of_z}
use Rattle.pixels.specs.Pixels.{packed}
use Rattle.face_grades.proofs.grades.corbelrush_sample.Goals as goal

pub returns : goal.returns
returns c =
    let a = c.args in
    c.pack.ensures ∙ ap packed (rw (to_z-of_z w32 a.x c.ranges.x, to_z-of_z w32 a.y c.ranges.y) at c.sample_at.ensures)
