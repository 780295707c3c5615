-- One plane cast as a shadow: moved, and blurred when the strength is above zero; and how a call casts its shadow.
use Rattle.std.specs.Prelude.{Bool, cond, List, ℕ, ◌*◌, ◌/◌, ◌%◌, Float}
use Rattle.picture.specs.Build.{build}
use Rattle.picture.specs.Planes.{Plane}
use Rattle.picture.specs.Sizes.{full_size}
use Rattle.picture.specs.Modes.{mode_of}
use Rattle.picture.specs.declared.EdgeMode.{EdgeMode}
use Rattle.binary32.specs.Round.{whole_offset}
use Rattle.composite.specs.Plane.{plane_in}
use Rattle.shift.specs.Shift.{shifted}
use Rattle.gaussian_blur.specs.Blurred.{blurred_plane}
use Rattle.gaussian_blur.specs.Outcome.{above_zero}
use Rattle.drop_shadow.specs.Shadowed.{shadowed}
use Rattle.drop_shadow.specs.declared.Recipe.{Recipe}
use Rattle.drop_shadow.specs.declared.Casting.{Casting}

-- the plane as the recipe moves it
abbrev pub moved_plane : Recipe → ℕ → ℕ → Plane → Plane
moved_plane recipe w h p = shifted (whole_offset recipe.dx) (whole_offset recipe.dy) w h p

unfoldable pub cast_plane : EdgeMode → List Float → ℕ → Recipe → ℕ → ℕ → Plane → Plane
cast_plane mode weights n recipe w h p = cond (above_zero recipe.strength) (blurred_plane mode weights n w h (moved_plane recipe w h p)) (moved_plane recipe w h p)

-- the same of the plane that these bytes are
unfoldable pub cast_bytes : EdgeMode → List Float → ℕ → Recipe → ℕ → ℕ → List ℕ → List ℕ
cast_bytes mode weights n recipe w h bytes = build (h * w) (λ i. cast_plane mode weights n recipe w h (plane_in bytes w) (i % w) (i / w))

-- how a call with these numbers casts its shadow
abbrev pub casting_of : ℕ → ℕ → ℕ → ℕ → Recipe → Bool → Casting
casting_of w h n edge recipe composite = record { size = full_size w h; n = n; mode = mode_of edge; recipe = recipe; composite = composite }

-- the picture with a shadow that is cast so
abbrev pub shadowed_by : Casting → List Float → List ℕ → List ℕ
shadowed_by c weights picture = shadowed c.mode weights c.n c.recipe c.composite c.size.w c.size.h picture
