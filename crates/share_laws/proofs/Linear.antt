-- Linearity: what is made of a weighted sum of lines or planes is the same weighted sum of what is made of each. One lift through the blur.
use Rattle.std.proofs.Common.{Option, Some, None}
use mathlib.Core.Path.{◌≡◌, refl, ◌∙◌, sym, ap, fun_ext}
use mathlib.Core.Bool.{Bool, true, false, cond}
use Prim.Native.Nat.{ℕ, zero, suc, ◌+◌, ◌*◌}
use native.Mathlib.Nat.{mul-add, mul-zero, mul_left_comm}
use Rattle.picture.specs.Planes.{Line, Plane}
use Rattle.picture.specs.Sizes.{half}
use Rattle.picture.specs.declared.EdgeMode.{EdgeMode}
use Rattle.edges.specs.Edges.{place, value_at, sample}
use Rattle.binary32.specs.Taps.{sum_to}
use Rattle.passes.specs.Passes.{Pass}
use Rattle.passes.specs.Blur.{both, blur}
use Rattle.share_laws.proofs.Sums.{sum_same, sum_none, sum_plus, sum_times}

-- the weighted sum of m lines, and of m planes
abbrev pub mixed : ℕ → (ℕ → ℕ) → (ℕ → Line) → Line
mixed m c P i = sum_to (λ k. c k * P k i) m

abbrev pub mixed_plane : ℕ → (ℕ → ℕ) → (ℕ → Plane) → Plane
mixed_plane m c P x y = sum_to (λ k. c k * P k x y) m

-- a number made of a line, or of a plane, linearly
pub record Lin (F : Line → ℕ) : Type 0 where
  pub law : (m : ℕ) (c : ℕ → ℕ) (P : ℕ → Line) → F (mixed m c P) ≡ sum_to (λ k. c k * F (P k)) m

pub record PlaneLin (G : Plane → ℕ) : Type 0 where
  pub law : (m : ℕ) (c : ℕ → ℕ) (P : ℕ → Plane) → G (mixed_plane m c P) ≡ sum_to (λ k. c k * G (P k)) m

-- each output of a pass is
abbrev pub Linear : Pass → Type 0
Linear f = (s x : ℕ) → Lin (λ l. f s l x)

pub lin_none : Lin (λ l. 0)
lin_none = record { law = λ m c P. sym (sum_none _ m (λ k _. mul-zero (c k))) }

module _ {F G : Line → ℕ} (f : Lin F) (g : Lin G) where
  pub lin_plus : Lin (λ l. F l + G l)
  lin_plus = record {
    law = λ m c P.
        ap (λ (a : ℕ). a + G (mixed m c P)) (f.law m c P)
        ∙ ap (λ (b : ℕ). sum_to (λ k. c k * F (P k)) m + b) (g.law m c P)
        ∙ sym (sum_plus _ _ m)
        ∙ sum_same _ _ m (λ k _. sym (mul-add (c k) (F (P k)) (G (P k))));
  }

  pub lin_cond : (b : Bool) → Lin (λ l. cond b (F l) (G l))
  lin_cond true = f
  lin_cond false = g

pub lin_times : {F : Line → ℕ} (n : ℕ) → Lin F → Lin (λ l. n * F l)
lin_times {F} n f = record {
  law = λ m c P.
      ap (λ (a : ℕ). n * a) (f.law m c P) ∙ sym (sum_times n _ m) ∙ sum_same _ _ m (λ k _. mul_left_comm n (c k) (F (P k)));
}

pub lin_sum : (F : ℕ → Line → ℕ) (n : ℕ) → ((j : ℕ) → Lin (F j)) → Lin (λ l. sum_to (λ j. F j l) n)
unfolding sum_to
lin_sum F zero f = lin_none
lin_sum F (suc n) f = lin_plus (lin_sum F n f) (f n)

-- a sample is linear, whatever the edge rule
pub sample_linear : (mode : EdgeMode) (s c d : ℕ) → Lin (λ l. sample mode s l c d)
unfolding sample
sample_linear mode s c d = at (place mode s c d)
  where
    at : (a : Option ℕ) → Lin (value_at a)
    at (Some i) = record { law = λ m k P. refl }
    at None = lin_none

-- one number made of planes that are made of planes
module _ (F : Plane → ℕ) (G : Plane → Plane) (f : PlaneLin F) (g : (x y : ℕ) → PlaneLin (λ p. G p x y)) where
  pub lin_then : PlaneLin (λ p. F (G p))
  lin_then = record { law = λ m c P. ap F (fun_ext (λ x. fun_ext (λ y. (g x y).law m c P))) ∙ f.law m c (λ k. G (P k)) }

pub both_linear : (f : Pass) → Linear f → (w h x y : ℕ) → PlaneLin (λ p. both f w h p x y)
both_linear f l w h x y = record {
  law = λ m c P.
      ap (λ (q : Line). f h q y) (fun_ext (λ j. (l w x).law m c (λ k i. P k i j))) ∙ (l h y).law m c (λ k j. f w (λ i. P k i j) x);
}

module _ (H D C : Pass) (lh : Linear H) (ld : Linear D) (lc : Linear C) where
  pub blur_linear : (n w h x y : ℕ) → PlaneLin (λ p. blur H D C n w h p x y)
  unfolding blur
  blur_linear zero w h x y = both_linear C lc w h x y
  blur_linear (suc n) w h x y =
      lin_then (λ q. both D (half w) (half h) (blur H D C n (half w) (half h) q) x y) (both H w h)
      (lin_then (λ q. both D (half w) (half h) q x y) (blur H D C n (half w) (half h)) (both_linear D ld (half w) (half h) x y) (λ u v. blur_linear n (half w) (half h) u v))
      (λ u v. both_linear H lh w h u v)
