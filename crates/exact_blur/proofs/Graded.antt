-- Demand 3 of the entry: what it leaves where it answers 0 is the blur.
use mathlib.Core.Path.{◌≡◌, ap, ◌∙◌, sym, subst}
use mathlib.Core.Bool.{true}
use mathlib.Core.List.{List}
use Prim.Native.Nat.{ℕ}
use native.Mathlib.Omega.{arith}
use lib.Ieee.{Float}
use Rattle.picture.specs.Answer.{answered, Lent, lent}
use Rattle.picture.specs.Modes.{mode_of}
use Rattle.picture.specs.Refusal.{number_of}
use Rattle.picture.proofs.Answers.{accepted}
use Rattle.gaussian_blur.specs.Blurred.{blurred}
use Rattle.gaussian_blur.specs.Outcome.{above_zero, blurred_or_kept, blur_outcome}
use Rattle.exact_blur.specs.Demand.{GridKernel, NearExact, LentBytes, OfTheEntry}
use Rattle.exact_blur.proofs.Near.{near_exact}

-- for a caller, of the equation that the entry promises
pub left_near : (p : List ℕ) (w h : ℕ) (s : List ℕ) (weights : List Float) (n : ℕ) (strength : Float) (edge r : ℕ) (left : Lent) →
    answered r left ≡ blur_outcome p w h s weights n strength edge → r ≡ 0 → above_zero strength ≡ true → GridKernel weights → LentBytes p →
    NearExact (mode_of edge) weights n w h p left.picture
unfolding blur_outcome blurred_or_kept
left_near p w h s weights n strength edge r left e zero on kernel bytes =
    let done = accepted _ _ _ left (subst (λ (n' : ℕ). answered n' left ≡ blur_outcome p w h s weights n strength edge) zero e) in
    let is : left.picture ≡ blurred (mode_of edge) weights n w h p = ap (λ (l : Lent). l.picture) done ∙ rw on in
    subst (λ (q : List ℕ). NearExact (mode_of edge) weights n w h p q) (sym is)
    (near_exact (mode_of edge) weights kernel n w h p (λ i. omega (arith, (bytes i).fits)))

pub graded : OfTheEntry
graded κs a r x e = left_near _ _ _ _ _ _ _ _ (number_of r) (lent x.0.now x.1.1.1.0.now) e
