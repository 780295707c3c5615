-- The coloured shadow, and the original over it.
use Rattle.std.specs.Prelude.{◌≡◌, Bool, false, cond, List, ℕ, zero, suc}
use Rattle.picture.specs.Planes.{chan, painted}
use Rattle.picture.specs.declared.Pixel.{Pixel}
use Rattle.binary32.specs.Ranges.{outside_unit}
use Rattle.pixels.specs.Channels.{premultiply}
use Rattle.composite.specs.Channels.{norm_byte, shadow_alpha, over}
use Rattle.composite.specs.declared.Colour.{Colour}

-- each component is from 0 to 1
pub record InUnit (colour : Colour) : Type 0 where
  pub red : outside_unit colour.red ≡ false
  pub green : outside_unit colour.green ≡ false
  pub blue : outside_unit colour.blue ≡ false
  pub alpha : outside_unit colour.alpha ≡ false

-- channel c of the shadow's pixel that has this alpha: the colour's channel multiplied by it, and last the alpha itself
unfoldable pub tinted : Colour → ℕ → ℕ → ℕ
tinted colour alpha zero = premultiply (norm_byte colour.red) alpha
tinted colour alpha (suc zero) = premultiply (norm_byte colour.green) alpha
tinted colour alpha (suc (suc zero)) = premultiply (norm_byte colour.blue) alpha
tinted colour alpha (suc (suc (suc c))) = alpha

-- channel c of the shadow where the copy's alpha is a
unfoldable pub shadow_of : Colour → ℕ → ℕ → ℕ
shadow_of colour a c = tinted colour (shadow_alpha colour.alpha a) c

-- the copy coloured: of its pixels the alpha alone counts
unfoldable pub coloured : Colour → ℕ → ℕ → List ℕ → List ℕ
coloured colour w h copy = painted w h (λ c x y. shadow_of colour (chan copy w 3 x y) c)

-- one pixel over another
abbrev pub over_pixel : Pixel → Pixel → Pixel
over_pixel src dst = record {
  r = over src.r dst.r src.a;
  g = over src.g dst.g src.a;
  b = over src.b dst.b src.a;
  a = over src.a dst.a src.a;
}

-- one picture over another
unfoldable pub composed : ℕ → ℕ → List ℕ → List ℕ → List ℕ
composed w h src dst = painted w h (λ c x y. over (chan src w c x y) (chan dst w c x y) (chan src w 3 x y))

-- the picture with its shadow: the original over the shadow, or the shadow alone
unfoldable pub written : Bool → ℕ → ℕ → List ℕ → List ℕ → List ℕ
written composite w h picture shadow = cond composite (composed w h picture shadow) shadow
