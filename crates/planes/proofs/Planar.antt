-- Planes as bytes: each form undoes the other inside the picture.
use mathlib.Core.Path.{◌≡◌, ◌∙◌, sym, ap}
use mathlib.Core.List.{List}
use mathlib.Core.Logic.{⊎_elim}
use Prim.Native.Nat.{ℕ, ◌+◌, ◌*◌, ◌/◌, ◌%◌, ◌<◌}
use native.Mathlib.Omega.{arith}
use native.Mathlib.Nat.{mul_comm, mul-zero, mod-lt, div-lt_iff_lt-mul, div-add-mod', eq-zero-or-pos}
use lib.ListN.{length, get_or}
use Rattle.picture.specs.Planes.{Plane, bytes_of}
use Rattle.picture.proofs.Build.{length_build, get_or-build, build_ext}
use Rattle.picture.proofs.Planes.{quotient, remainder, pixel_fits}
use Rattle.planes.specs.Planar.{plane_of, painted_planes}

-- 4wh, as four times h rows of w
pub four : (w h : ℕ) → bytes_of w h ≡ 4 * (h * w)
four w h = ap (λ (k : ℕ). 4 * k) (mul_comm w h)

-- rows that hold something are not empty
not_empty : (w h : ℕ) → 0 < h * w → 0 < w
not_empty w h l = ⊎_elim (λ z. absurd (omega (arith, ap (λ (k : ℕ). h * k) z, mul-zero h))) (λ p. p) (eq-zero-or-pos w)

module _ (w h : ℕ) where
  pub length_planes : (F : ℕ → Plane) → length (painted_planes w h F) ≡ bytes_of w h
  unfolding painted_planes
  length_planes F = length_build _ _

  -- the channels of painted planes are the planes they were painted from
  pub plane_painted : (F : ℕ → Plane) (c x y : ℕ) → c < 4 → x < w → y < h → plane_of (painted_planes w h F) w h c x y ≡ F c x y
  unfolding plane_of painted_planes
  plane_painted F c x y lc lx ly =
      let i = c * (h * w) + (y * w + x) in
      let inside : y * w + x < h * w = pixel_fits w h x y lx ly in
      let all : i < bytes_of w h = omega (arith, four w h, pixel_fits (h * w) 4 (y * w + x) c inside lc) in
      rw (get_or-build (bytes_of w h) _ i all, quotient (h * w) c (y * w + x) inside, remainder (h * w) c (y * w + x) inside, remainder w y x lx, quotient w y x lx)

  -- bytes of the right length with these channels are the painted planes
  pub planes_ext : (F : ℕ → Plane) (l : List ℕ) → length l ≡ bytes_of w h →
      ((c x y : ℕ) → c < 4 → x < w → y < h → plane_of l w h c x y ≡ F c x y) → l ≡ painted_planes w h F
  unfolding plane_of painted_planes
  planes_ext F l e f =
      build_ext (bytes_of w h) _ l e
      (λ i lt.
      let within : i < 4 * (h * w) = omega (arith, four w h) in
      let area : 0 < h * w = omega arith in
      let wide : 0 < w = not_empty w h area in
      let c : i / (h * w) < 4 = (div-lt_iff_lt-mul area).1 within in
      let k : i % (h * w) < h * w = mod-lt i area in
      let back : i / (h * w) * (h * w) + (i % (h * w) / w * w + i % (h * w) % w) ≡ i = omega (arith, div-add-mod' i (h * w), div-add-mod' (i % (h * w)) w) in
      ap (λ (j : ℕ). get_or l j 0) (sym back) ∙ f (i / (h * w)) (i % (h * w) % w) (i % (h * w) / w) c (mod-lt (i % (h * w)) wide) ((div-lt_iff_lt-mul wide).1 k))
