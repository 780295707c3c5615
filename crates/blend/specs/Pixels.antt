-- Pixels as bytes, and four pixels blended.
use Rattle.std.specs.Prelude.{[], ◌∷◌, ℕ, get_or}
use Rattle.picture.specs.declared.Pixel.{Pixel}
use Rattle.blend.specs.declared.Weights.{Weights}
use Rattle.blend.specs.Blend.{weighed}

-- channel k of a pixel: r, g, b, a
abbrev pub channel_of : Pixel → ℕ → ℕ
channel_of p k = get_or (p.r ∷ p.g ∷ p.b ∷ p.a ∷ []) k 0

-- four pixels made one, channel by channel
abbrev pub by_channel : (ℕ → ℕ → ℕ → ℕ → ℕ) → Pixel → Pixel → Pixel → Pixel → Pixel
by_channel f p q r s =
    record {
      r = f p.r q.r r.r s.r;
      g = f p.g q.g r.g s.g;
      b = f p.b q.b r.b s.b;
      a = f p.a q.a r.a s.a;
    }

-- four pixels in their weights, over 8, rounded
abbrev pub weighed_pixels : Weights → Pixel → Pixel → Pixel → Pixel → Pixel
weighed_pixels w = by_channel (weighed w)
