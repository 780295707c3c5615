-- Laws of pixels as bytes.
use mathlib.Core.Path.{◌≡◌, refl, ◌∙◌}
use mathlib.Core.List.{List}
use Prim.Native.Nat.{ℕ, zero, suc, ◌+◌, ◌*◌, ◌<◌}
use native.Mathlib.Omega.{arith}
use Rattle.picture.specs.declared.Pixel.{Pixel}
use Rattle.passes.specs.Written.{lane}
use Rattle.blend.specs.declared.TheConstants.{ONE_THREE}
use Rattle.blend.specs.Blend.{weighed, mix}
use Rattle.pixels.specs.Pixels.{pixel, pixel_from}
use Rattle.blend.specs.Pixels.{channel_of, by_channel, weighed_pixels}

-- weights 1, 3, 3, 1 are halving's
mixed : (a b c d : ℕ) → weighed ONE_THREE a b c d ≡ mix a b c d
mixed a b c d = omega arith

-- byte k of four pixels made one, channel by channel, is made of that byte of each
module _ (f : ℕ → ℕ → ℕ → ℕ → ℕ) {p q r s m : Pixel} (a b c d : ℕ → ℕ) (ep : p ≡ pixel a) (eq : q ≡ pixel b) (er : r ≡ pixel c) (es : s ≡ pixel d) (em : m ≡ by_channel f p q r s) where
  pub bytes_made : (k : ℕ) → k < 4 → channel_of m k ≡ f (a k) (b k) (c k) (d k)
  bytes_made k l = rw (em, ep, eq, er, es) (each k l)
    where
      each : (k : ℕ) → k < 4 → channel_of (by_channel f (pixel a) (pixel b) (pixel c) (pixel d)) k ≡ f (a k) (b k) (c k) (d k)
      each zero l = refl
      each (suc zero) l = refl
      each (suc (suc zero)) l = refl
      each (suc (suc (suc zero))) l = refl
      each (suc (suc (suc (suc k)))) l = absurd (omega arith)

module _ (src : List ℕ) (start : ℕ) where
  -- byte k of pixel i of a row is its lane k
  pub pixel_lanes : (i : ℕ) → pixel_from src (start + i * 4) ≡ pixel (λ k. lane src start 4 k i)
  pixel_lanes i = refl

  -- lane k of four blended pixels of a row is that lane of each, blended
  pub pixels_mix : {p q r s m : Pixel} (a b c d : ℕ) →
      p ≡ pixel_from src (start + a * 4) → q ≡ pixel_from src (start + b * 4) → r ≡ pixel_from src (start + c * 4) → s ≡ pixel_from src (start + d * 4) → m ≡ weighed_pixels ONE_THREE p q r s →
      (k : ℕ) → k < 4 → channel_of m k ≡ mix (lane src start 4 k a) (lane src start 4 k b) (lane src start 4 k c) (lane src start 4 k d)
  pixels_mix a b c d ep eq er es em k l =
      let at : ℕ → ℕ → ℕ = λ i j. lane src start 4 j i in
      bytes_made (weighed ONE_THREE) (at a) (at b) (at c) (at d) (ep ∙ pixel_lanes a) (eq ∙ pixel_lanes b) (er ∙ pixel_lanes c) (es ∙ pixel_lanes d) em k l
      ∙ mixed (at a k) (at b k) (at c k) (at d k)
