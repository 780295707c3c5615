-- The whole-number blur is the float blur on the grid: on bytes their convolutions agree, and halving and doubling keep that.
use mathlib.Core.Path.{◌≡◌, refl, ap, subst, fun_ext}
use mathlib.Core.List.{List, map}
use Prim.Native.Nat.{ℕ, ◌≤◌}
use native.Mathlib.Omega.{arith}
use lib.Ieee.{Float}
use Rattle.picture.specs.Planes.{Line, chan}
use Rattle.picture.specs.declared.EdgeMode.{EdgeMode}
use Rattle.picture.proofs.Planes.{painted_same}
use Rattle.edges.proofs.Samples.{sample_relates}
use Rattle.binary32.specs.Grid.{numerators}
use Rattle.binary32.proofs.Channels.{byte_le}
use Rattle.passes.specs.Passes.{convolve}
use Rattle.kept.proofs.Carried.{Carries, Sampled, Eighths, blur_carries}
use Rattle.gaussian_blur.specs.Blurred.{blurred}
use Rattle.exact_blur.specs.Exact.{exact_blur}
use Rattle.exact_blur.specs.Demand.{GridKernel, steps_of, Within}
use Rattle.exact_blur.proofs.Near.{convolve_on_grid, near_exact}
use Rattle.grid_sums.specs.Sums.{grid_sum, whole_convolve}
use Rattle.whole_blur.specs.Blurred.{whole_blurred}
use Rattle.profiles.specs.Same.{weight_on_grid, SameAsFloat, WholeNearExact}
use Rattle.profiles.proofs.Weights.{have_weights}

-- one byte and the same
abbrev Alike : ℕ → ℕ → Type 0
Alike a b = (a ≡ b) × (b ≤ 255)

alike_sampled : (mode : EdgeMode) → Sampled Alike mode
alike_sampled mode s p q r c d = sample_relates mode s p q c d Alike (refl, omega arith) r

alike_eighths : Eighths Alike
alike_eighths a b c d a' b' c' d' p q r s = (rw (p.0, q.0, r.0, s.0), omega (arith, p.1, q.1, r.1, s.1))

module _ (mode : EdgeMode) (weights : List Float) (kernel : GridKernel weights) where
  alike_convolve : Carries Alike (whole_convolve mode (numerators weights)) (convolve mode weights)
  unfolding whole_convolve grid_sum convolve
  alike_convolve s p q r x =
      let exact = convolve_on_grid mode weights kernel s q (λ i. (r i).1) x in
      let same : grid_sum mode (numerators weights) s p x ≡ grid_sum mode (numerators weights) s q x = ap (λ (o : Line). grid_sum mode (numerators weights) s o x) (fun_ext (λ i. (r i).0)) in
      (omega (arith, exact, same), byte_le _)

pub same_as_float : SameAsFloat
unfolding whole_blurred blurred chan
same_as_float ms weights those fits mode n w h p bytes =
    painted_same w h _ _
    (λ c x y _ _ _.
    (blur_carries Alike mode (alike_sampled mode) alike_eighths _ _
    (rw those.are at (alike_convolve mode weights (record { on_grid = those.on_grid; fits = rw those.are fits })))
    n w h _ _ (λ u v. (refl, bytes _)) x y).0)

pub whole_near_exact : WholeNearExact
whole_near_exact ms fits mode n w h p bytes c x y lc lx ly =
    let those = have_weights ms fits in
    let near = near_exact mode (map weight_on_grid ms) (record { on_grid = those.on_grid; fits = rw those.are fits }) n w h p bytes c x y lc lx ly in
    rw (same_as_float ms (map weight_on_grid ms) those fits mode n w h p bytes)
    (subst (λ (k : List ℕ). Within (steps_of n) n (chan (blurred mode (map weight_on_grid ms) n w h p) w c x y) (exact_blur mode k n w h (chan p w c) x y)) those.are near)
