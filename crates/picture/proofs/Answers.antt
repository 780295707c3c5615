-- What a call comes to: refused, or done; a call that answers 0 was done; and what one answer tells of two calls.
use mathlib.Core.Path.{◌≡◌, ◌∙◌, refl, sym, ap}
use mathlib.Core.Bool.{Bool, true, false, cond}
use mathlib.Core.List.{List}
use Prim.Native.Nat.{ℕ}
use lib.Dec.{eqb}
use borrow.Author.Tests.{eqb-false, eq-eqb, ne_eqb}
use Rattle.picture.specs.Answer.{Answer, answered, Lent, lent, settled}

-- what can be read back from its answer is settled by it
pub undone : {A B : Type 0} (f : A → B) (back : B → A) → ((a : A) → back (f a) ≡ a) → (a b : A) → f a ≡ f b → a ≡ b
undone f back h a b e = sym (h a) ∙ ap back e ∙ h b

-- two calls with one work buffer that come to one answer have one number and leave the same bytes
pub lent_once : {r₁ r₂ : ℕ} {p₁ p₂ s₁ s₂ : List ℕ} → answered r₁ (lent p₁ s₁) ≡ answered r₂ (lent p₂ s₂) → (r₁ ≡ r₂) × (p₁ ≡ p₂) × (s₁ ≡ s₂)
lent_once e = (ap (λ (o : Answer Lent). o.number) e, ap (λ (o : Answer Lent). o.left.picture) e, ap (λ (o : Answer Lent). o.left.scratch) e)

module _ {A : Type 0} (refusal : ℕ) (before after : A) where
  pub refused : (refusal ≡ 0 → ⊥) → answered refusal before ≡ settled refusal before after
  unfolding settled
  refused f = rw (ne_eqb refusal 0 f)

  pub done : refusal ≡ 0 → answered 0 after ≡ settled refusal before after
  unfolding settled
  done e = rw (eq-eqb refusal 0 e)

  -- answered 0: what is left is what a call that is done leaves
  pub accepted : (left : A) → answered 0 left ≡ settled refusal before after → left ≡ after
  unfolding settled
  accepted left e = by (eqb refusal 0) refl e
    where
      by : (b : Bool) → eqb refusal 0 ≡ b → answered 0 left ≡ cond b (answered 0 after) (answered refusal before) → left ≡ after
      by true h e = ap (λ (o : Answer A). o.left) e
      by false h e = absurd (eqb-false refusal 0 h (sym (ap (λ (o : Answer A). o.number) e)))
