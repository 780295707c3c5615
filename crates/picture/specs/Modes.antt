-- The edge rules by their numbers.
use Rattle.std.specs.Prelude.{ℕ, cond, eqb}
use Rattle.picture.specs.declared.EdgeMode.{EdgeMode}
use Rattle.picture.specs.declared.EdgeMode.TheVariants.{Duplicate, Wrap, Mirror, None}

-- 0 Duplicate, 1 Wrap, 2 Mirror, 3 None
unfoldable pub mode_of : ℕ → EdgeMode
mode_of edge = cond (eqb edge 0) Duplicate (cond (eqb edge 1) Wrap (cond (eqb edge 2) Mirror None))
