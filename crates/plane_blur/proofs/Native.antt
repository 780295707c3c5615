-- Planes as a form: what is done to each of them where it lies is what is done to the picture that they are.
use mathlib.Core.Path.{◌≡◌, refl, ◌∙◌, sym, ap, fun_ext}
use mathlib.Core.Bool.{Bool, true, false, cond}
use mathlib.Core.List.{List}
use Prim.Native.Nat.{ℕ, ◌*◌, ◌/◌, ◌%◌}
use native.Mathlib.Nat.{mul-one, mul_comm}
use native.Mathlib.Omega.{arith}
use lib.Ieee.{Float}
use lib.ListN.{length}
use Rattle.picture.specs.Planes.{Plane, bytes_of}
use Rattle.picture.specs.Sizes.{Sides}
use Rattle.picture.specs.declared.EdgeMode.{EdgeMode}
use Rattle.passes.specs.Passes.{halve, double, convolve}
use Rattle.passes.specs.Forms.{of_planes, form_bytes, read_as, write_as}
use Rattle.passes.proofs.Forms.{length_write, read_write}
use Rattle.passes.proofs.Local.{halve_local, double_local, convolve_local, blur_local}
use Rattle.passes.proofs.Planes.{at}
use Rattle.planes.specs.Planar.{plane_of, painted_planes, planar, interleaved, on_planes}
use Rattle.planes.proofs.Planar.{planes_ext}
use Rattle.planes.proofs.Once.{there, on_planes_lem}
use Rattle.gaussian_blur.specs.Blurred.{blurred_plane, blurred, blurred_form}
use Rattle.gaussian_blur.specs.Outcome.{above_zero, blurred_or_kept, form_or_kept}
use Rattle.gaussian_blur.proofs.Outcomes.{made_or_kept}

-- planes have as many bytes as the picture, ..
pub planes_bytes : (w h : ℕ) → form_bytes (of_planes 4) w h ≡ bytes_of w h
planes_bytes w h = ap (λ (k : ℕ). 4 * k) (ap (λ (k : ℕ). h * k) (mul-one w) ∙ mul_comm h w)

-- .. and are read and written plane by plane
planes_read : (bytes : List ℕ) (w h : ℕ) → read_as (of_planes 4) bytes w h ≡ plane_of bytes w h
unfolding read_as plane_of
planes_read bytes w h =
    fun_ext
    (λ c.
    fun_ext
    (λ x.
    fun_ext
    (λ y.
    let p : c / 1 ≡ c = omega arith in
    let k : c % 1 ≡ 0 = omega arith in
    at bytes (rw (p, k, mul-one w, mul-one x) (omega arith)))))

planes_write : (w h : ℕ) (F : ℕ → Plane) → write_as (of_planes 4) w h F ≡ painted_planes w h F
planes_write w h F =
    planes_ext w h F _ (length_write (of_planes 4) w h F ∙ planes_bytes w h)
    (λ c x y lc lx ly.
    ap (λ (G : ℕ → Plane). G c x y) (sym (planes_read (write_as (of_planes 4) w h F) w h)) ∙ read_write (of_planes 4) w h F c x y (omega arith) lx ly)

module _ (mode : EdgeMode) (weights : List Float) (w h : ℕ) (z : Sides w h) (p : List ℕ) where
  -- each plane blurred is the picture blurred
  planes_blurred : (n : ℕ) → blurred_form (of_planes 4) mode weights n w h p ≡ on_planes w h (blurred mode weights n w h) p
  unfolding blurred
  planes_blurred n =
      ap (λ (F : ℕ → Plane). write_as (of_planes 4) w h (λ c. blurred_plane mode weights n w h (F c))) (planes_read p w h)
      ∙ planes_write w h _
      ∙ sym
      (on_planes_lem w h (λ F c. blurred_plane mode weights n w h (F c))
      (λ F G e c x y lc lx ly.
      blur_local (halve mode) (double mode) (convolve mode weights) (halve_local mode) (double_local mode) (convolve_local mode weights)
      n w h (F c) (G c) z.w_low z.h_low (λ i j li lj. e c i j lc li lj) x y)
      (blurred mode weights n w h) (λ q. refl) p)

  -- by the strength: each plane blurred, or all as they are
  pub planes_worked : (n : ℕ) (strength : Float) → length p ≡ bytes_of w h → form_or_kept (of_planes 4) mode weights n strength w h p ≡ on_planes w h (blurred_or_kept mode weights n strength w h) p
  unfolding on_planes blurred_or_kept
  planes_worked n strength e = made_or_kept (of_planes 4) mode weights n strength w h p (planes_blurred n) (sym (there w h p e)) ∙ by (above_zero strength)
    where
      by : (b : Bool) → cond b (planar w h (blurred mode weights n w h (interleaved w h p))) (planar w h (interleaved w h p)) ≡ planar w h (cond b (blurred mode weights n w h (interleaved w h p)) (interleaved w h p))
      by true = refl
      by false = refl
