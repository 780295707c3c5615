-- A pass looks only at the elements of its line: each of the three does, and so both axes and the blur.
use mathlib.Core.Path.{◌≡◌, fun_ext}
use mathlib.Core.List.{List}
use Prim.Native.Nat.{ℕ, zero, suc, ◌<◌}
use native.Mathlib.Omega.{arith}
use lib.Ieee.{Float}
use Rattle.picture.specs.Planes.{Line, Plane}
use Rattle.picture.specs.Sizes.{half}
use Rattle.picture.specs.declared.EdgeMode.{EdgeMode}
use Rattle.edges.specs.Edges.{sample}
use Rattle.edges.proofs.Samples.{sample_local}
use Rattle.passes.specs.Passes.{Pass, halve, double, convolve}
use Rattle.passes.specs.Blur.{both, blur}

-- lines that agree below the size are made into the same line
abbrev pub Local : Pass → Type 0
Local f = (s : ℕ) (p q : Line) → 0 < s → ((i : ℕ) → i < s → p i ≡ q i) → (x : ℕ) → f s p x ≡ f s q x

module _ (mode : EdgeMode) where
  -- their samples are the same
  pub same_samples : (s : ℕ) (p q : Line) → 0 < s → ((i : ℕ) → i < s → p i ≡ q i) → sample mode s p ≡ sample mode s q
  same_samples s p q z h = fun_ext (λ c. fun_ext (λ d. sample_local mode s p q c d z h))

  pub halve_local : Local (halve mode)
  unfolding halve
  halve_local s p q z h x = rw (same_samples s p q z h)

  pub double_local : Local (double mode)
  unfolding double
  double_local s p q z h x = rw (same_samples s p q z h)

  pub convolve_local : (weights : List Float) → Local (convolve mode weights)
  unfolding convolve
  convolve_local weights s p q z h x = rw (same_samples s p q z h)

-- planes that agree below the sides
abbrev pub Same : ℕ → ℕ → Plane → Plane → Type 0
Same w h p q = (x y : ℕ) → x < w → y < h → p x y ≡ q x y

module _ (f : Pass) (l : Local f) where
  pub both_local : (w h : ℕ) (p q : Plane) → 0 < w → 0 < h → Same w h p q → (x y : ℕ) → both f w h p x y ≡ both f w h q x y
  both_local w h p q zw zh e x y = l h _ _ zh (λ j lj. l w _ _ zw (λ i li. e i j li lj) x) y

module _ (H D C : Pass) (lh : Local H) (ld : Local D) (lc : Local C) where
  pub blur_local : (n w h : ℕ) (p q : Plane) → 0 < w → 0 < h → Same w h p q → (x y : ℕ) → blur H D C n w h p x y ≡ blur H D C n w h q x y
  unfolding blur
  blur_local zero w h p q zw zh e = both_local C lc w h p q zw zh e
  blur_local (suc n) w h p q zw zh e =
      both_local D ld (half w) (half h) _ _ (omega arith) (omega arith)
      (λ x y _ _.
      blur_local n (half w) (half h) _ _ (omega arith) (omega arith) (λ u v _ _. both_local H lh w h p q zw zh e u v) x y)
