-- The three exact passes are linear, and look only at their line.
use mathlib.Core.Path.{◌≡◌, fun_ext}
use mathlib.Core.List.{List}
use Prim.Native.Nat.{ℕ, ◌+◌, ◌*◌, ◌/◌, ◌%◌, ◌<◌}
use native.Mathlib.Nat.{mul_comm}
use lib.Dec.{eqb}
use lib.ListN.{length, get_or}
use Rattle.picture.specs.Planes.{Line, Plane}
use Rattle.picture.specs.declared.EdgeMode.{EdgeMode}
use Rattle.edges.specs.Edges.{sample}
use Rattle.edges.proofs.Samples.{sample_local}
use Rattle.passes.proofs.Local.{Local, Same, blur_local}
use Rattle.grid_sums.specs.Sums.{grid_sum}
use Rattle.exact_blur.specs.Exact.{exact_halve, exact_double, exact_convolve, exact_blur}
use Rattle.share_laws.proofs.Linear.{Lin, PlaneLin, Linear, lin_plus, lin_times, lin_cond, lin_sum, sample_linear, blur_linear}

module _ (mode : EdgeMode) where
  pub halve_linear : Linear (exact_halve mode)
  unfolding exact_halve
  halve_linear s x =
      lin_plus (lin_plus (lin_plus (sample_linear mode s (2 * x) 1) (lin_times 3 (sample_linear mode s (2 * x) 0))) (lin_times 3 (sample_linear mode s (2 * x + 1) 0))) (sample_linear mode s (2 * x + 2) 0)

  pub double_linear : Linear (exact_double mode)
  unfolding exact_double
  double_linear s y =
      lin_cond
      (lin_plus (sample_linear mode s (y / 2) 1) (lin_times 3 (sample_linear mode s (y / 2) 0)))
      (lin_plus (lin_times 3 (sample_linear mode s (y / 2) 0)) (sample_linear mode s (y / 2 + 1) 0))
      (eqb (y % 2) 0)

  samples : (s : ℕ) (p q : Line) → 0 < s → ((i : ℕ) → i < s → p i ≡ q i) → sample mode s p ≡ sample mode s q
  samples s p q z h = fun_ext (λ c. fun_ext (λ d. sample_local mode s p q c d z h))

  halve_local : Local (exact_halve mode)
  unfolding exact_halve
  halve_local s p q z h x = rw (samples s p q z h)

  double_local : Local (exact_double mode)
  unfolding exact_double
  double_local s p q z h x = rw (samples s p q z h)

  module _ (numerators : List ℕ) where
    pub convolve_linear : Linear (exact_convolve mode numerators)
    unfolding grid_sum
    convolve_linear s x =
        lin_sum _ (length numerators) (λ j. turned j (sample_linear mode s (x + j) (length numerators / 2)))
      where
        turned : {F : Line → ℕ} (j : ℕ) → Lin F → Lin (λ l. F l * get_or numerators j 0)
        turned {F} j f = rw (fun_ext {A = Line} (λ l. mul_comm (F l) (get_or numerators j 0))) (lin_times (get_or numerators j 0) f)

    convolve_local : Local (exact_convolve mode numerators)
    unfolding grid_sum
    convolve_local s p q z h x = rw (samples s p q z h)

    pub exact_linear : (n w h x y : ℕ) → PlaneLin (λ p. exact_blur mode numerators n w h p x y)
    exact_linear = blur_linear _ _ _ halve_linear double_linear convolve_linear

    pub exact_local : (n w h : ℕ) (p q : Plane) → 0 < w → 0 < h → Same w h p q → (x y : ℕ) → exact_blur mode numerators n w h p x y ≡ exact_blur mode numerators n w h q x y
    exact_local = blur_local _ _ _ halve_local double_local convolve_local
