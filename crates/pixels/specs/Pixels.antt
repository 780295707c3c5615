-- Pixels as records, and the bytes of a picture pixel by pixel, row after row: the place y·w + x has pixel x, y.
use Rattle.std.specs.Prelude.{List, ℕ, ◌+◌, ◌*◌, get_or, set}
use Rattle.picture.specs.declared.Pixel.{Pixel}

-- the pixel of four channels
abbrev pub pixel : (ℕ → ℕ) → Pixel
pixel f = record { r = f 0; g = f 1; b = f 2; a = f 3 }

-- the pixel whose bytes start at byte o
abbrev pub pixel_from : List ℕ → ℕ → Pixel
pixel_from bytes o = pixel (λ c. get_or bytes (o + c) 0)

-- pixel i of all
abbrev pub pixel_at : List ℕ → ℕ → Pixel
pixel_at bytes i = pixel_from bytes (4 * i)

-- the bytes with another pixel from byte o on
unfoldable pub with_pixel_from : List ℕ → ℕ → Pixel → List ℕ
with_pixel_from bytes o p = set (set (set (set bytes o p.r) (o + 1) p.g) (o + 2) p.b) (o + 3) p.a

-- the bytes with another pixel i
abbrev pub with_pixel : List ℕ → ℕ → Pixel → List ℕ
with_pixel bytes i p = with_pixel_from bytes (4 * i) p

-- a pixel in one number: r | g<<8 | b<<16 | a<<24
abbrev pub packed : Pixel → ℕ
packed p = p.r + p.g * 256 + p.b * 65536 + p.a * 16777216
