-- A plane of alphas: its bytes in the order of the pixels, the shadow's alphas of them, and the colour's channels as the tint's.
use mathlib.Core.Path.{◌≡◌, refl, ap, ◌∙◌}
use mathlib.Core.Bool.{Bool, true, false, cond}
use mathlib.Core.List.{List}
use Prim.Native.Nat.{ℕ, zero, suc, ◌+◌, ◌*◌, ◌/◌, ◌%◌, ◌<◌}
use native.Mathlib.Nat.{div-add-mod', mul_comm}
use native.Mathlib.Omega.{arith}
use lib.Ieee.{Float}
use lib.ListN.{length, get_or}
use Rattle.picture.specs.Build.{build}
use Rattle.picture.specs.Planes.{Plane, chan}
use Rattle.picture.proofs.Build.{get_or-build, build_same}
use Rattle.picture.proofs.Planes.{pixel_fits}
use Rattle.pixels.specs.Pixels.{pixel}
use Rattle.composite.specs.Channels.{shadow_alpha, over}
use Rattle.composite.specs.Shadow.{over_pixel, tinted, shadow_of}
use Rattle.composite.specs.Plane.{plane_in, alphas_in, through, shadow_alphas, tint_of, tinted_by, tint_on, shadow_on}
use Rattle.composite.specs.declared.Colour.{Colour}
use Rattle.composite.specs.declared.Tint.{Tint}

pub plane_here : (bytes : List ℕ) (w i : ℕ) → plane_in bytes w (i % w) (i / w) ≡ get_or bytes i 0
unfolding plane_in
plane_here bytes w i = ap (λ (k : ℕ). get_or bytes k 0) (div-add-mod' i w)

-- the alphas of a picture, as a plane
pub alphas_plane : (n : ℕ) (picture : List ℕ) (w h x y : ℕ) → n ≡ w * h → x < w → y < h → plane_in (alphas_in n picture) w x y ≡ chan picture w 3 x y
unfolding plane_in alphas_in chan
alphas_plane n picture w h x y e lx ly = get_or-build n _ (y * w + x) (omega (arith, pixel_fits w h x y lx ly, mul_comm w h))

-- a plane through the table of the shadow's alphas
pub through_alphas : (alpha : Float) (plane table : List ℕ) → ((i : ℕ) → get_or plane i 0 < 256) → table ≡ build 256 (shadow_alpha alpha) → through table plane ≡ shadow_alphas alpha plane
unfolding through shadow_alphas
through_alphas alpha plane table byte e = rw e (build_same (length plane) _ _ (λ i l. get_or-build 256 (shadow_alpha alpha) (get_or plane i 0) (byte i)))

-- the shadow's alphas as a plane
pub alphas_at : (alpha : Float) (plane : List ℕ) (w h x y : ℕ) → length plane ≡ w * h → x < w → y < h → plane_in (shadow_alphas alpha plane) w x y ≡ shadow_alpha alpha (plane_in plane w x y)
unfolding plane_in shadow_alphas
alphas_at alpha plane w h x y e lx ly = get_or-build (length plane) _ (y * w + x) (omega (arith, pixel_fits w h x y lx ly, mul_comm w h))

-- so a shadow of those alphas, written in whichever form, is the shadow that the plane casts
module _ (w h : ℕ) (write : (ℕ → Plane) → List ℕ) (same : (F G : ℕ → Plane) → ((c x y : ℕ) → c < 4 → x < w → y < h → F c x y ≡ G c x y) → write F ≡ write G) where
  pub shadow_written : (F : ℕ → Plane) (colour : Colour) (plane : List ℕ) → length plane ≡ w * h → {composite : Bool} (b : Bool) {tint : Tint} {alphas out : List ℕ} →
      composite ≡ b → tint ≡ tint_of colour → alphas ≡ shadow_alphas colour.alpha plane → out ≡ write (tint_on b tint F (plane_in alphas w)) →
      out ≡ write (shadow_on composite colour F (plane_in plane w))
  unfolding tint_on
  shadow_written F colour plane e b is tint alphas out =
      out ∙ rw (tint, alphas, is) (same _ _ (λ c x y lc lx ly. rw (alphas_at colour.alpha plane w h x y e lx ly)))

-- the tint of a colour gives its shadow's channels
pub as_tint : (colour : Colour) (a c : ℕ) → shadow_of colour a c ≡ tinted_by (tint_of colour) (shadow_alpha colour.alpha a) c
unfolding tinted_by tinted shadow_of
as_tint colour a zero = refl
as_tint colour a (suc zero) = refl
as_tint colour a (suc (suc zero)) = refl
as_tint colour a (suc (suc (suc c))) = refl

-- a pixel over the shadow's or the shadow's alone, channel by channel
pub channels : (b : Bool) (p q : ℕ → ℕ) → cond b (over_pixel (pixel p) (pixel q)) (pixel q) ≡ pixel (λ c. cond b (over (p c) (q c) (p 3)) (q c))
channels true p q = refl
channels false p q = refl
