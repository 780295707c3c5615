-- Laws of one pixel lowered, and of the picture whose every pixel is.
use mathlib.Core.Path.{◌≡◌, sym, ◌∙◌}
use mathlib.Core.Bool.{false}
use mathlib.Core.List.{List}
use Prim.Native.Nat.{ℕ, ◌+◌, ◌*◌, ◌/◌, ◌%◌, ◌<◌, min}
use native.Mathlib.Nat.{add-zero, min-eq_left, min-le_right}
use native.Mathlib.Omega.{arith}
use lib.Dec.{ltb}
use borrow.Author.Tests.{ltb-false, le-ltb}
use lib.ListN.{length}
use lib.Seq.{set-get_or}
use Rattle.picture.specs.Planes.{bytes_of, painted}
use Rattle.picture.specs.declared.Pixel.{Pixel}
use Rattle.picture.proofs.Build.{get_or-build}
use Rattle.picture.proofs.Planes.{length_painted}
use Rattle.picture.proofs.Tests.{neither}
use Rattle.pixels.specs.Pixels.{pixel, pixel_at, with_pixel_from, with_pixel}
use Rattle.pixels.specs.Channels.{exceeds}
use Rattle.pixels.proofs.Painting.{at, chan_here, Painting, ends}
use Rattle.mending.specs.Changes.{lowered, mended}

-- a channel that does not exceed stays
stays : (c a : ℕ) → ltb a c ≡ false → min c a ≡ c
stays c a h = min-eq_left (ltb-false a c h)

-- a pixel that passes stays
pub kept : (p : Pixel) → exceeds p ≡ false → lowered p ≡ p
unfolding exceeds
kept p h =
    let red = neither _ _ h in
    let rest = neither _ _ red.1 in
    rw (stays p.r p.a red.0, stays p.g p.a rest.0, stays p.b p.a rest.1)

-- a lowered pixel passes
pub passes : (p : Pixel) → exceeds (lowered p) ≡ false
unfolding exceeds
passes p = rw (low p.r, low p.g, low p.b)
  where
    low : (c : ℕ) → ltb p.a (min c p.a) ≡ false
    low c = le-ltb p.a (min c p.a) (min-le_right c p.a)

-- a pixel written where it stands changes nothing
pub same_pixel : (bytes : List ℕ) (i : ℕ) → with_pixel bytes i (pixel_at bytes i) ≡ bytes
unfolding with_pixel_from
same_pixel bytes i = rw (add-zero, set-get_or, set-get_or, set-get_or, set-get_or)

-- channel c of pixel i, lowered
abbrev pub lowered_at : List ℕ → ℕ → ℕ → ℕ
lowered_at bytes i c = min (at bytes i c) (at bytes i 3)

-- alpha is as it was
pub lowered_is : (bytes : List ℕ) (i : ℕ) → lowered (pixel_at bytes i) ≡ pixel (lowered_at bytes i)
lowered_is bytes i = rw (min-eq_left {n = at bytes i 3} {m = at bytes i 3} (omega arith))

module _ (w h : ℕ) (p : List ℕ) where
  -- every pixel is written lowered
  pub mended_is : {new : List ℕ} {i n : ℕ} → Painting (lowered_at p) p new i n → i ≡ w * h → length p ≡ bytes_of w h → new ≡ mended w h p
  unfolding mended
  mended_is t all exact = ends t w h _ all exact (λ k c l. sym (rw (chan_here p w c k, chan_here p w 3 k)))

  -- each channel of the mended picture is the lesser of itself and alpha ..
  pub mended_at : (k c : ℕ) → k < w * h → c < 4 → at (mended w h p) k c ≡ lowered_at p k c
  unfolding mended painted
  mended_at k c l lc =
      let pixel : (4 * k + c) / 4 ≡ k = omega arith in
      let lane : (4 * k + c) % 4 ≡ c = omega arith in
      get_or-build (bytes_of w h) _ (4 * k + c) (omega arith) ∙ rw (pixel, lane, chan_here p w c k, chan_here p w 3 k)

  -- .. so each pixel is lowered
  pub mended_pixel : (k : ℕ) → k < w * h → pixel_at (mended w h p) k ≡ lowered (pixel_at p k)
  mended_pixel k l =
      rw (mended_at k 0 l (omega arith), mended_at k 1 l (omega arith), mended_at k 2 l (omega arith), mended_at k 3 l (omega arith)) (sym (lowered_is p k))

  pub length_mended : length (mended w h p) ≡ bytes_of w h
  unfolding mended
  length_mended = length_painted w h _
