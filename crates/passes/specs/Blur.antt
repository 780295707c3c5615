-- The blur as a scheme over three passes: one that halves, one that doubles and one that convolves.
use Rattle.std.specs.Prelude.{ℕ, zero, suc}
use Rattle.picture.specs.Planes.{Plane}
use Rattle.picture.specs.Sizes.{half}
use Rattle.passes.specs.Passes.{Pass, rows, cols}

-- rows first, then columns
abbrev pub both : Pass → ℕ → ℕ → Plane → Plane
both f w h p = cols f h (rows f w p)

-- with decimations left it halves, blurs with one fewer, and doubles; with none left it convolves
unfoldable pub blur : Pass → Pass → Pass → ℕ → ℕ → ℕ → Plane → Plane
blur H D C zero w h p = both C w h p
blur H D C (suc n) w h p = both D (half w) (half h) (blur H D C n (half w) (half h) (both H w h p))
