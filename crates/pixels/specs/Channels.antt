-- A pixel's channels beside its alpha.
use Rattle.std.specs.Prelude.{Bool, ◌||◌, List, ℕ, ◌+◌, ◌*◌, ◌/◌, ltb}
use Rattle.picture.specs.declared.Pixel.{Pixel}
use Rattle.pixels.specs.Pixels.{pixel_at}

-- a pixel of which a channel exceeds alpha: r, g or b exceeds a
unfoldable pub exceeds : Pixel → Bool
exceeds p = ltb p.a p.r || (ltb p.a p.g || ltb p.a p.b)

-- the pixel of place k does
abbrev pub exceeds_at : List ℕ → ℕ → Bool
exceeds_at bytes k = exceeds (pixel_at bytes k)

-- a channel multiplied by its alpha: floor((channel·alpha + 127) / 255)
unfoldable pub premultiply : ℕ → ℕ → ℕ
premultiply channel alpha = (channel * alpha + 127) / 255
