-- The shadow that a plane of alphas casts: single bytes, w to a row.
use Rattle.std.specs.Prelude.{Bool, cond, List, ℕ, zero, suc, ◌+◌, ◌*◌, Float, length, get_or}
use Rattle.picture.specs.Build.{build}
use Rattle.picture.specs.Planes.{Plane}
use Rattle.pixels.specs.Channels.{premultiply}
use Rattle.composite.specs.Channels.{norm_byte, shadow_alpha, over}
use Rattle.composite.specs.declared.Colour.{Colour}
use Rattle.composite.specs.declared.Tint.{Tint}

-- the plane that these bytes are
unfoldable pub plane_in : List ℕ → ℕ → Plane
plane_in bytes w x y = get_or bytes (y * w + x) 0

-- the alphas of a picture's first n pixels
unfoldable pub alphas_in : ℕ → List ℕ → List ℕ
alphas_in n picture = build n (λ i. get_or picture (4 * i + 3) 0)

-- a plane through a table of 256 bytes
unfoldable pub through : List ℕ → List ℕ → List ℕ
through table plane = build (length plane) (λ i. get_or table (get_or plane i 0) 0)

-- the shadow's alphas where the plane has these
unfoldable pub shadow_alphas : Float → List ℕ → List ℕ
shadow_alphas alpha plane = build (length plane) (λ i. shadow_alpha alpha (get_or plane i 0))

-- a colour's channels as bytes
abbrev pub tint_of : Colour → Tint
tint_of colour = record { red = norm_byte colour.red; green = norm_byte colour.green; blue = norm_byte colour.blue }

-- channel c of a pixel of this tint that has this alpha: the tint's channel multiplied by it, and last the alpha itself
unfoldable pub tinted_by : Tint → ℕ → ℕ → ℕ
tinted_by tint alpha zero = premultiply tint.red alpha
tinted_by tint alpha (suc zero) = premultiply tint.green alpha
tinted_by tint alpha (suc (suc zero)) = premultiply tint.blue alpha
tinted_by tint alpha (suc (suc (suc c))) = alpha

-- the channels F over a shadow of this tint whose alphas are A, or that shadow alone: in whichever form they are stored
unfoldable pub tint_on : Bool → Tint → (ℕ → Plane) → Plane → ℕ → Plane
tint_on composite tint F A c x y = cond composite (over (F c x y) (tinted_by tint (A x y) c) (F 3 x y)) (tinted_by tint (A x y) c)

-- the same of a shadow of this colour that a plane of alphas casts
abbrev pub shadow_on : Bool → Colour → (ℕ → Plane) → Plane → ℕ → Plane
shadow_on composite colour F S = tint_on composite (tint_of colour) F (λ x y. shadow_alpha colour.alpha (S x y))
