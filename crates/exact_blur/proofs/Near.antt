-- Demand 3: on the grid of 1/65536 every channel of the blur is within 2n+1 steps of the exact blur.
use mathlib.Core.Path.{◌≡◌, sym, ap, ◌∙◌, subst}
use mathlib.Core.List.{List}
use Prim.Native.Nat.{ℕ, ◌+◌, ◌*◌, ◌/◌, ◌≤◌}
use native.Mathlib.Omega.{arith}
use native.Mathlib.Nat.{mul-one, mul_assoc}
use lib.Ieee.{Float, nan, is_nan}
use lib.ListN.{length, get_or, length-map, get_or-map}
use Rattle.picture.specs.Planes.{Line, Plane, chan}
use Rattle.picture.specs.declared.EdgeMode.{EdgeMode}
use Rattle.picture.proofs.Planes.{chan_painted}
use Rattle.edges.specs.Edges.{sample}
use Rattle.binary32.specs.Ranges.{outside_unit}
use Rattle.binary32.specs.Grid.{on_grid, numerators, numerator, sum}
use Rattle.binary32.specs.Taps.{sum_to}
use Rattle.binary32.proofs.Kernels.{weight, grid_weights_of, sum_of}
use Rattle.binary32.proofs.Taps.{channel_exact}
use Rattle.passes.specs.Passes.{convolve}
use Rattle.passes.proofs.Relates.{Moves, blur_moves}
use Rattle.passes.proofs.Taps.{sample_most}
use Rattle.gaussian_blur.specs.Blurred.{blurred_plane, blurred}
use Rattle.grid_sums.specs.Sums.{grid_sum}
use Rattle.exact_blur.specs.Exact.{exact_convolve, exact_blur, scale_of}
use Rattle.exact_blur.specs.Demand.{steps_of, Within, GridKernel, OfTheBlur}
use Rattle.exact_blur.proofs.Stages.{Stage, Near, over_by, done_scale, done_halves}
use Rattle.exact_blur.proofs.Passes.{settled, taps_near, halve_moves, double_moves}

-- a byte beside itself
abbrev start : Stage
start = record { scale = 1; halves = 0 }

itself : (a : ℕ) → a ≤ 255 → Near start a a
itself a h = record { byte = omega arith; low = omega arith; high = omega arith }

-- 4n + 2 half steps are 2n + 1 steps
within : {t : Stage} {a b : ℕ} (n : ℕ) → t.scale ≡ scale_of n → t.halves ≡ 0 + (4 * n + 2) → Near t a b → Within (steps_of n) n a b
within {t} {a} {b} n es eh c =
    let in_halves : (4 * n + 2) * scale_of n ≡ 2 * ((2 * n + 1) * scale_of n) = ap (λ (k : ℕ). k * scale_of n) (twice n) ∙ mul_assoc 2 (2 * n + 1) (scale_of n) in
    let low = rw (es, eh) at c.low in
    let high = rw (es, eh) at c.high in
    record { low = omega arith; high = omega arith }
  where
    twice : (n : ℕ) → 4 * n + 2 ≡ 2 * (2 * n + 1)
    twice n = omega arith

-- numerator j is that of weight j, past the end too
numerator_at : (weights : List Float) (j : ℕ) → get_or (numerators weights) j 0 ≡ numerator (weight weights j)
unfolding numerator on_grid outside_unit is_nan
numerator_at weights j = get_or-map numerator weights j nan

-- their sum, by their index
pub numerators_sum : (weights : List Float) → sum_to (λ j. get_or (numerators weights) j 0) (length (numerators weights)) ≡ sum (numerators weights)
numerators_sum weights = simp (length-map, numerator_at weights) (sum_of numerator weights)

module _ (mode : EdgeMode) (weights : List Float) (kernel : GridKernel weights) where
  -- on bytes the convolution in binary32 is the exact one over 65536, rounded to the nearest
  pub convolve_on_grid : (s : ℕ) (p : Line) → ((i : ℕ) → p i ≤ 255) → (x : ℕ) →
      convolve mode weights s p x ≡ (2 * exact_convolve mode (numerators weights) s p x + 65536) / 131072
  unfolding convolve grid_sum
  convolve_on_grid s p bytes x =
      channel_exact (λ j. sample mode s p (x + j) (length weights / 2)) (weight weights) (length weights)
      (λ j _. sample_most mode p 255 bytes s (x + j) (length weights / 2))
      (grid_weights_of weights kernel.on_grid) (omega (arith, sum_of numerator weights, kernel.fits))
      ∙ simp (length-map, numerator_at weights)

  convolve_moves : Moves Near (over_by 65536) (convolve mode weights) (exact_convolve mode (numerators weights))
  unfolding grid_sum
  convolve_moves t s p q r x =
      let all = numerators_sum weights in
      settled 65536 (omega arith) (omega (arith, kernel.fits))
      (convolve_on_grid s p (λ i. omega (arith, (r i).byte)) x)
      (taps_near mode t s p q r (λ j. x + j) (length (numerators weights) / 2) (λ j. get_or (numerators weights) j 0) (length (numerators weights)))

  -- one plane of bytes
  plane_near : (n w h : ℕ) (p : Plane) → ((x y : ℕ) → p x y ≤ 255) → (x y : ℕ) → Within (steps_of n) n (blurred_plane mode weights n w h p x y) (exact_blur mode (numerators weights) n w h p x y)
  plane_near n w h p bytes x y =
      within n (done_scale n start ∙ mul-one (scale_of n)) (done_halves n start)
      (blur_moves Near (over_by 8) (over_by 4) (over_by 65536) _ _ _ _ _ _ (halve_moves mode) (double_moves mode) convolve_moves n start w h p p
      (λ u v. itself (p u v) (bytes u v)) x y)

-- every channel of every pixel of a blurred picture
pub near_exact : OfTheBlur
unfolding blurred chan
near_exact mode weights kernel n w h p bytes c x y lc lx ly =
    subst (λ (a : ℕ). Within (steps_of n) n a (exact_blur mode (numerators weights) n w h (chan p w c) x y))
    (sym (chan_painted w h (λ c. blurred_plane mode weights n w h (chan p w c)) c x y lc lx ly))
    (plane_near mode weights kernel n w h (chan p w c) (λ u v. bytes _) x y)
