-- Premultiplied stays premultiplied: what each operation makes of a picture, and what each entry leaves, whatever it answers.
use mathlib.Core.Path.{◌≡◌}
use mathlib.Core.Bool.{Bool}
use mathlib.Core.List.{List}
use Prim.Native.Nat.{ℕ}
use native.Mathlib.Omega.{arith}
use lib.Ieee.{Float}
use Rattle.picture.specs.Refusal.{number_of}
use Rattle.picture.specs.Answer.{answered, Lent, lent, LentCopy, lent_copy}
use Rattle.kept.proofs.Left.{either_way}
use Rattle.gaussian_blur.specs.Outcome.{blur_outcome}
use Rattle.gaussian_blur.proofs.Outcomes.{accepted}
use Rattle.shift.specs.Outcome.{shift_outcome}
use Rattle.drop_shadow.specs.Outcome.{shadow_outcome}
use Rattle.drop_shadow.specs.declared.Recipe.{Recipe}
use Rattle.whole_blur.specs.Outcome.{whole_outcome}
use Rattle.whole_blur.proofs.Outcomes.{whole_passes}
use Rattle.premultiplied.specs.Rule.{Premultiplied}
use Rattle.premultiplied.specs.Stays.{LeavesPremultiplied, StaysPremultiplied}
use Rattle.premultiplied.proofs.Blurs.{blur_keeps}
use Rattle.premultiplied.proofs.Wholes.{whole_keeps}
use Rattle.premultiplied.proofs.Shifts.{shift_keeps}
use Rattle.premultiplied.proofs.Shadows.{shadow_keeps}

-- for a caller, of the equation that each entry promises
pub blur_leaves_lem : (p : List ℕ) (w h : ℕ) (s : List ℕ) (weights : List Float) (n : ℕ) (strength : Float) (edge r : ℕ) (left : Lent) →
    answered r left ≡ blur_outcome p w h s weights n strength edge → LeavesPremultiplied w h p left.picture
unfolding blur_outcome
blur_leaves_lem p w h s weights n strength edge r left e fit pre =
    either_way (λ (l : Lent). Premultiplied w h l.picture) _ _ _ r left e pre
    (λ z. (blur_keeps _ _ (accepted p w h s weights n strength edge z).1.kernel _ _ _ _).premultiplied _ (λ i. omega (arith, (fit i).fits)) pre)

pub whole_leaves_lem : (p : List ℕ) (w h : ℕ) (s ms : List ℕ) (n edge r : ℕ) (left : Lent) → answered r left ≡ whole_outcome p w h s ms n edge →
    LeavesPremultiplied w h p left.picture
unfolding whole_outcome
whole_leaves_lem p w h s ms n edge r left e fit pre =
    either_way (λ (l : Lent). Premultiplied w h l.picture) _ _ _ r left e pre
    (λ z. (whole_keeps _ ms (whole_passes p w h s ms n edge z).1.kernel _ _ _).premultiplied _ (λ i. omega (arith, (fit i).fits)) pre)

pub shift_leaves_lem : (p : List ℕ) (w h : ℕ) (dx dy : Float) (r : ℕ) (left : List ℕ) → answered r left ≡ shift_outcome p w h dx dy → LeavesPremultiplied w h p left
unfolding shift_outcome
shift_leaves_lem p w h dx dy r left e fit pre =
    either_way (Premultiplied w h) _ _ _ r left e pre (λ _. (shift_keeps _ _ _ _).premultiplied _ (λ i. omega (arith, (fit i).fits)) pre)

pub shadow_leaves_lem : (p : List ℕ) (w h : ℕ) (s c : List ℕ) (weights : List Float) (n edge : ℕ) (recipe : Recipe) (composite : Bool) (r : ℕ) (left : LentCopy) →
    answered r left ≡ shadow_outcome p w h s c weights n edge recipe composite → LeavesPremultiplied w h p left.picture
unfolding shadow_outcome
shadow_leaves_lem p w h s c weights n edge recipe composite r left e fit pre =
    either_way (λ (l : LentCopy). Premultiplied w h l.picture) _ _ _ r left e pre
    (λ _. (shadow_keeps _ _ _ _ _ _ composite).premultiplied _ (λ i. omega (arith, (fit i).fits)) pre)

pub stays_premultiplied : StaysPremultiplied
stays_premultiplied =
    record {
      blurs = λ mode weights kernel n strength w h. blur_keeps mode weights kernel n w h strength;
      wholes = whole_keeps;
      shifts = shift_keeps;
      shadows = λ mode weights n recipe composite w h. shadow_keeps mode weights n recipe w h composite;
      blur = λ κs a r left. blur_leaves_lem _ _ _ _ _ _ _ _ (number_of r) (lent left.0.now left.1.1.1.0.now);
      whole = λ κs a r left. whole_leaves_lem _ _ _ _ _ _ _ (number_of r) (lent left.0.now left.1.1.1.0.now);
      shift = λ κs a r left. shift_leaves_lem _ _ _ _ _ (number_of r) left.0.now;
      shadow = λ κs a r left. shadow_leaves_lem _ _ _ _ _ _ _ _ _ _ (number_of r) (lent_copy left.0.now left.1.1.1.0.now left.1.1.1.1.0.now);
    }
