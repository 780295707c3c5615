-- Planes and bytes: each undoes the other inside the picture.
use mathlib.Core.Path.{◌≡◌, ◌∙◌, sym, ap}
use mathlib.Core.List.{List, ◌++◌}
use Prim.Native.Nat.{ℕ, ◌+◌, ◌*◌, ◌/◌, ◌%◌, ◌<◌}
use native.Mathlib.Omega.{arith}
use native.Mathlib.Nat.{mul-le-mul_right, add-mul, one-mul, zero-mul, add-zero, mul_comm, mod-lt, mod-eq_of_lt, div-eq_of_lt, div-lt_iff_lt-mul, div-add-mod', mul-add-div_right, mul-add-mod_self_right}
use lib.ListN.{length, get_or, drop, replicate, length-replicate}
use Rattle.picture.specs.Planes.{Plane, bytes_of, chan, painted, laid, cleared}
use Rattle.picture.proofs.Build.{length_build, get_or-build, build_ext}

-- y whole groups of w and x more: y and x back from the place among all
module _ (w y x : ℕ) (l : x < w) where
  pub remainder : (y * w + x) % w ≡ x
  remainder = mul-add-mod_self_right y w x ∙ mod-eq_of_lt l

  pub quotient : (y * w + x) / w ≡ y
  quotient = mul-add-div_right {m = w} (omega arith) y x ∙ ap (λ (k : ℕ). y + k) (div-eq_of_lt l) ∙ add-zero y

-- pixel x, y of w by h comes before the last has ended
pub pixel_fits : (w h x y : ℕ) → x < w → y < h → y * w + x < h * w
pixel_fits w h x y a b = omega (arith, mul-le-mul_right {m = y + 1} {n = h} w (omega arith), add-mul y 1 w, one-mul w)

module _ (w h : ℕ) where
  pub length_painted : (F : ℕ → Plane) → length (painted w h F) ≡ bytes_of w h
  unfolding painted
  length_painted F = length_build _ _

  -- the channels of a painted picture are the planes it was painted from
  pub chan_painted : (F : ℕ → Plane) (c x y : ℕ) → c < 4 → x < w → y < h → chan (painted w h F) w c x y ≡ F c x y
  unfolding chan painted
  chan_painted F c x y lc lx ly =
      let i = 4 * (y * w + x) + c in
      let at : i < bytes_of w h = omega (arith, pixel_fits w h x y lx ly, mul_comm h w) in
      let pixel : i / 4 ≡ y * w + x = omega arith in
      let lane : i % 4 ≡ c = omega arith in
      rw (get_or-build (bytes_of w h) _ i at, pixel, lane, remainder w y x lx, quotient w y x lx)

  -- a list of the right length with these channels is the painted picture
  pub painted_ext : (F : ℕ → Plane) (l : List ℕ) → length l ≡ bytes_of w h →
      ((c x y : ℕ) → c < 4 → x < w → y < h → chan l w c x y ≡ F c x y) → l ≡ painted w h F
  unfolding chan painted
  painted_ext F l e f =
      build_ext (bytes_of w h) _ l e
      (λ i lt.
      let q : i / 4 < w * h = omega arith in
      let wide : 0 < w = pos_of_product w h (i / 4) q in
      let back : 4 * (i / 4 / w * w + i / 4 % w) + i % 4 ≡ i = omega (arith, div-add-mod' (i / 4) w) in
      ap (λ (j : ℕ). get_or l j 0) (sym back)
      ∙ f (i % 4) (i / 4 % w) (i / 4 / w) (omega arith) (mod-lt (i / 4) wide) ((div-lt_iff_lt-mul wide).1 (omega (arith, mul_comm w h))))
    where
      pos_of_product : (a b c : ℕ) → c < a * b → 0 < a
      pos_of_product a b c l = pos_by a (λ z. omega (arith, ap (λ (k : ℕ). k * b) z, zero-mul b))
        where
          pos_by : (a : ℕ) → (a ≡ 0 → ⊥) → 0 < a
          pos_by a f = omega arith

-- planes that agree inside the picture paint the same bytes
pub painted_same : (w h : ℕ) (F G : ℕ → Plane) → ((c x y : ℕ) → c < 4 → x < w → y < h → F c x y ≡ G c x y) → painted w h F ≡ painted w h G
painted_same w h F G e =
    painted_ext w h G (painted w h F) (length_painted w h F)
    (λ c x y lc lx ly. chan_painted w h F c x y lc lx ly ∙ e c x y lc lx ly)

-- a work buffer after a success: as many zeros, and the rest of it
pub cleared_is : (n : ℕ) (work : List ℕ) → cleared n work ≡ replicate n 0 ++ drop n work
unfolding cleared laid
cleared_is n work = ap (λ (k : ℕ). replicate n 0 ++ drop k work) (length-replicate n 0)
