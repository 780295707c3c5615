-- Whatever a contract allows of one call is one outcome: any two answers, with what is lent as it is left, coincide.
use mathlib.Core.Path.{◌≡◌, refl, ap, ◌∙◌, sym}
use mathlib.Core.List.{List}
use Prim.Native.Nat.{ℕ}
use contract.Lifetimes.{Lfts}
use borrow.Fn.Kinds.{Dens, ended_of}
use denote.Triple.Clauses.{AtExit}
use Rattle.std.specs.Prelude.{Result, Ok, Err}
use Rattle.picture.specs.Answer.{Answer}
use Rattle.picture.specs.declared.checks.Refusal.{Refusal}
use Rattle.picture.proofs.Refused.{answer_of, answer_undone}
use Rattle.mending.specs.Outcome.{MendLeft, mend_answer}
use Rattle.mending.proofs.mender.mend.Reads as mend
use Rattle.mending.proofs.mender.mend.Kinds as mend-kinds

-- an answer can be read back from its number and count
mend_back : Answer MendLeft → Result ℕ Refusal
mend_back a = answer_of a.number a.left.count

mend_undone : (r : Result ℕ Refusal) (p : List ℕ) (l : List (List ℕ)) → mend_back (mend_answer r p l) ≡ r
unfolding mend_back answer_of
mend_undone (Ok n) p l = refl
mend_undone (Err r) p l = answer_undone r 0

-- and what is left
left_as : (r : Result ℕ Refusal) (p : List ℕ) (l : List (List ℕ)) → ((mend_answer r p l).left.picture ≡ p) × ((mend_answer r p l).left.list ≡ l)
left_as (Err r) p l = (refl, refl)
left_as (Ok n) p l = (refl, refl)

pub mend_once : (r₁ r₂ : Result ℕ Refusal) (p₁ p₂ : List ℕ) (l₁ l₂ : List (List ℕ)) → mend_answer r₁ p₁ l₁ ≡ mend_answer r₂ p₂ l₂ → (r₁ ≡ r₂) × (p₁ ≡ p₂) × (l₁ ≡ l₂)
mend_once r₁ r₂ p₁ p₂ l₁ l₂ e =
    let first = left_as r₁ p₁ l₁ in
    let second = left_as r₂ p₂ l₂ in (
      sym (mend_undone r₁ p₁ l₁) ∙ ap mend_back e ∙ mend_undone r₂ p₂ l₂,
      sym first.0 ∙ ap (λ (a : Answer MendLeft). a.left.picture) e ∙ second.0,
      sym first.1 ∙ ap (λ (a : Answer MendLeft). a.left.list) e ∙ second.1,
    )

pub mend_determined : (κs : Lfts 2) (a : Dens κs mend-kinds.ps) (r₁ r₂ : Result ℕ Refusal) (x₁ x₂ : AtExit (ended_of 2 mend-kinds.ps mend-kinds.r) κs) →
    mend.Post κs a r₁ x₁ → mend.Post κs a r₂ x₂ → (r₁ ≡ r₂) × (x₁.0.now ≡ x₂.0.now) × (x₁.1.1.1.0.now ≡ x₂.1.1.1.0.now)
mend_determined κs a r₁ r₂ x₁ x₂ h₁ h₂ = mend_once r₁ r₂ _ _ _ _ (h₁ ∙ sym h₂)
