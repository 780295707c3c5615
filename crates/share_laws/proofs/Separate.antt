-- The blur of a product of two lines is the product of their blurs: the axes separate.
use mathlib.Core.Path.{◌≡◌, ◌∙◌, sym, ap, fun_ext}
use mathlib.Core.List.{List}
use Prim.Native.Nat.{ℕ, zero, suc, ◌*◌}
use native.Mathlib.Nat.{mul_comm, zero-add}
use Rattle.picture.specs.Planes.{Line, Plane}
use Rattle.picture.specs.Sizes.{half}
use Rattle.picture.specs.declared.EdgeMode.{EdgeMode}
use Rattle.binary32.specs.Taps.{sum_to}
use Rattle.passes.specs.Passes.{Pass}
use Rattle.passes.specs.Blur.{both, blur}
use Rattle.exact_blur.specs.Exact.{exact_blur}
use Rattle.share_laws.specs.Share.{unit, share, line_blur, exact_line, axis_share}
use Rattle.share_laws.specs.Explained.{Separate}
use Rattle.share_laws.proofs.Linear.{Lin, Linear}
use Rattle.share_laws.proofs.Exact.{halve_linear, double_linear, convolve_linear}

-- one line, c times as large
scaled : {F : Line → ℕ} → Lin F → (c : ℕ) (l : Line) → F (λ i. c * l i) ≡ c * F l
unfolding sum_to
scaled {F} f c l = ap F (fun_ext (λ i. sym (zero-add (c * l i)))) ∙ f.law 1 (λ _. c) (λ _. l) ∙ zero-add (c * F l)

-- a product of two lines
abbrev times : Line → Line → Plane
times u v x y = u x * v y

module _ (f : Pass) (l : Linear f) where
  both_times : (w h : ℕ) (u v : Line) → both f w h (times u v) ≡ times (f w u) (f h v)
  both_times w h u v = fun_ext (λ x. fun_ext (λ y. at x y))
    where
      row : (x j : ℕ) → f w (λ i. u i * v j) x ≡ f w u x * v j
      row x j = ap (λ (q : Line). f w q x) (fun_ext (λ i. mul_comm (u i) (v j))) ∙ scaled (l w x) (v j) u ∙ mul_comm (v j) (f w u x)

      at : (x y : ℕ) → both f w h (times u v) x y ≡ f w u x * f h v y
      at x y = ap (λ (q : Line). f h q y) (fun_ext (λ j. row x j)) ∙ scaled (l h y) (f w u x) v

module _ (H D C : Pass) (lh : Linear H) (ld : Linear D) (lc : Linear C) where
  blur_times : (n w h : ℕ) (u v : Line) → blur H D C n w h (times u v) ≡ times (line_blur H D C n w u) (line_blur H D C n h v)
  unfolding blur line_blur
  blur_times zero w h u v = both_times C lc w h u v
  blur_times (suc n) w h u v =
      ap (λ (p : Plane). both D (half w) (half h) (blur H D C n (half w) (half h) p)) (both_times H lh w h u v)
      ∙ ap (λ (p : Plane). both D (half w) (half h) p) (blur_times n (half w) (half h) (H w u) (H h v))
      ∙ both_times D ld (half w) (half h) _ _

-- the exact blur of a product of two lines
pub exact_times : (mode : EdgeMode) (ms : List ℕ) (n w h : ℕ) (u v : Line) (x y : ℕ) → exact_blur mode ms n w h (times u v) x y ≡ exact_line mode ms n w u x * exact_line mode ms n h v y
exact_times mode ms n w h u v x y =
    ap (λ (p : Plane). p x y) (blur_times _ _ _ (halve_linear mode) (double_linear mode) (convolve_linear mode ms) n w h u v)

pub separate : Separate
unfolding share axis_share
separate mode ms n w h ox oy ix iy = exact_times mode ms n w h (unit ix) (unit iy) ox oy
