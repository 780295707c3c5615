-- One pixel of four planes of n bytes, and what laying planes over a shadow needs.
use Rattle.std.specs.Prelude.{◌≡◌, List, ℕ, ◌+◌, ◌*◌, length, get_or, set}
use Rattle.picture.specs.Sizes.{Pictured}
use Rattle.picture.specs.declared.FullSize.{FullSize}
use Rattle.picture.specs.declared.Pixel.{Pixel}
use Rattle.pixels.specs.Pixels.{pixel}

-- pixel i: byte i of each plane
abbrev pub channel_in : ℕ → List ℕ → ℕ → ℕ → ℕ
channel_in n planes i c = get_or planes (c * n + i) 0

abbrev pub pixel_in : ℕ → List ℕ → ℕ → Pixel
pixel_in n planes i = pixel (channel_in n planes i)

-- the planes with another pixel i
unfoldable pub with_pixel_in : ℕ → List ℕ → ℕ → Pixel → List ℕ
with_pixel_in n planes i p = set (set (set (set planes i p.r) (n + i) p.g) (2 * n + i) p.b) (3 * n + i) p.a

-- four planes of this size, and one of alphas
pub record Alphas (size : FullSize) (planes alphas : List ℕ) : Type 0 where
  pub pictured : Pictured size.w size.h planes
  pub exact : length alphas ≡ size.w * size.h
