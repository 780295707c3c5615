-- What a call leaves, whatever it answers.
use mathlib.Core.Path.{◌≡◌, refl, sym, ap, subst}
use mathlib.Core.Bool.{Bool, true, false, cond}
use Prim.Native.Nat.{ℕ}
use borrow.Author.Tests.{eqb-true}
use lib.Dec.{eqb}
use Rattle.picture.specs.Answer.{Answer, answered, settled}

-- what holds of a call's buffers before, and of what it leaves where nothing is refused, holds of what it leaves
pub either_way : {A : Type 0} (P : A → Type 0) (refusal : ℕ) (before after : A) (r : ℕ) (left : A) → answered r left ≡ settled refusal before after →
    P before → (0 ≡ refusal → P after) → P left
unfolding settled
either_way {A} P refusal before after r left e old new = by (eqb refusal 0) refl e
  where
    by : (b : Bool) → eqb refusal 0 ≡ b → answered r left ≡ cond b (answered 0 after) (answered refusal before) → P left
    by true t e = subst P (sym (ap (λ (o : Answer A). o.left) e)) (new (sym (eqb-true refusal 0 t)))
    by false t e = subst P (sym (ap (λ (o : Answer A). o.left) e)) old
