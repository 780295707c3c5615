-- Demand 3 is in reach of 14 decimations: check 6 is the only one that reads n, and lets 14 through.
use mathlib.Core.Path.{◌≡◌, ◌∙◌, sym}
use mathlib.Core.List.{List}
use Prim.Native.Nat.{ℕ, ◌≤◌}
use native.Mathlib.Omega.{arith}
use lib.Ieee.{Float}
use lib.ListN.{length}
use Rattle.picture.specs.Answer.{answered, Lent, lent}
use Rattle.picture.specs.Refusal.{number_of, first_of, max_decimations}
use Rattle.picture.proofs.Settled.{read}
use Rattle.picture.proofs.Conditions.{each_passes, shallow_enough}
use Rattle.gaussian_blur.specs.Outcome.{blur_checks, blur_outcome}
use Rattle.exact_blur.specs.Demand.{UpTo14}
use Rattle.exact_blur.proofs.Graded.{graded}

-- what is accepted with no decimation is accepted with n
deeper : (p : List ℕ) (w h : ℕ) (s : List ℕ) (weights : List Float) (n : ℕ) (strength : Float) (edge r : ℕ) (left : Lent) →
    answered r left ≡ blur_outcome p w h s weights n strength edge → 0 ≡ first_of (blur_checks (length p) w h (length s) weights 0 strength edge) → n ≤ 14 → r ≡ 0
unfolding blur_outcome max_decimations
deeper p w h s weights n strength edge r left e fit l =
    let c = (each_passes (blur_checks (length p) w h (length s) weights 0 strength edge) (omega arith)).0 fit in
    let passed = (each_passes (blur_checks (length p) w h (length s) weights n strength edge) (omega arith)).1 in
    (read _ _ _ r left e).number
    ∙ sym (passed (c.0, (c.1.0, (c.1.1.0, (c.1.1.1.0, (c.1.1.1.1.0, ((shallow_enough n).1 l, c.1.1.1.1.1.1)))))))

pub up_to_14 : UpTo14
up_to_14 κs a r left post fit l on kernel bytes =
    let zero = deeper _ _ _ _ _ _ _ _ (number_of r) (lent left.0.now left.1.1.1.0.now) post fit l in
    (zero, graded κs a r left post zero on kernel bytes)
