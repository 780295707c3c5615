-- What an entry's equation says, as a reader needs it: the number is the refusal; not 0 means unchanged; 0 means done.
use mathlib.Core.Path.{◌≡◌, ◌∙◌, refl, sym, ap, ap₂, subst}
use mathlib.Core.Bool.{Bool, true, false, cond}
use Prim.Native.Nat.{ℕ}
use lib.Dec.{eqb}
use borrow.Author.Tests.{eqb-true, eqb-false}
use Rattle.picture.specs.Answer.{Answer, answered, settled}
use Rattle.picture.proofs.Answers.{refused, done, accepted}

pub record Reading {A : Type 0} (refusal : ℕ) (before after : A) (r : ℕ) (left : A) : Type 0 where
  pub number : r ≡ refusal
  pub unchanged : (r ≡ 0 → ⊥) → left ≡ before
  pub finished : r ≡ 0 → left ≡ after

module _ {A : Type 0} (refusal : ℕ) (before after : A) (r : ℕ) (left : A) where
  -- the equation gives the three ..
  pub read : answered r left ≡ settled refusal before after → Reading refusal before after r left
  unfolding settled
  read e =
      record {
        number = number_by (eqb refusal 0) refl e;
        unchanged = λ f. unchanged_by (eqb refusal 0) e f;
        finished = λ z. accepted refusal before after left (subst (λ (n : ℕ). answered n left ≡ settled refusal before after) z e);
      }
    where
      number_of : {a b : Answer A} → a ≡ b → a.number ≡ b.number
      number_of e = ap (λ (o : Answer A). o.number) e

      number_by : (b : Bool) → eqb refusal 0 ≡ b → answered r left ≡ cond b (answered 0 after) (answered refusal before) → r ≡ refusal
      number_by true t e = number_of e ∙ sym (eqb-true refusal 0 t)
      number_by false t e = number_of e

      unchanged_by : (b : Bool) → answered r left ≡ cond b (answered 0 after) (answered refusal before) → (r ≡ 0 → ⊥) → left ≡ before
      unchanged_by true e f = absurd (f (number_of e))
      unchanged_by false e f = ap (λ (o : Answer A). o.left) e

  -- .. and they give the equation
  pub settle : Reading refusal before after r left → answered r left ≡ settled refusal before after
  settle t = by (eqb refusal 0) refl
    where
      by : (b : Bool) → eqb refusal 0 ≡ b → answered r left ≡ settled refusal before after
      by true z =
          let zero = eqb-true refusal 0 z in
          ap₂ answered (t.number ∙ zero) (t.finished (t.number ∙ zero)) ∙ done refusal before after zero
      by false z =
          let some = eqb-false refusal 0 z in
          ap₂ answered t.number (t.unchanged (λ e. some (sym t.number ∙ e))) ∙ refused refusal before after some
