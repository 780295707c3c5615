-- Whatever a contract allows of one call is one outcome: any two answers, with the list as it is left, coincide.
use mathlib.Core.Path.{◌≡◌, refl, ap, ◌∙◌, sym}
use mathlib.Core.List.{List}
use Prim.Native.Nat.{ℕ}
use contract.Lifetimes.{Lfts}
use borrow.Fn.Kinds.{Dens, ended_of}
use denote.Triple.Clauses.{AtExit}
use Rattle.std.specs.Prelude.{Result, Ok, Err}
use Rattle.picture.specs.Answer.{Answer}
use Rattle.picture.specs.declared.checks.Refusal.{Refusal}
use Rattle.picture.proofs.Refused.{answer_of, answer_undone}
use Rattle.share_lists.specs.Listing.{PointsLeft, list_answer}
use Rattle.share_lists.proofs.listing.list.Reads as list
use Rattle.share_lists.proofs.listing.list.Kinds as list-kinds

-- an answer can be read back from its number and its count
list_back : Answer PointsLeft → Result ℕ Refusal
list_back a = answer_of a.number a.left.count

list_undone : (r : Result ℕ Refusal) (l : List (List ℕ)) → (list_back (list_answer r l) ≡ r) × ((list_answer r l).left.list ≡ l)
unfolding list_back answer_of
list_undone (Ok n) l = (refl, refl)
list_undone (Err r) l = (answer_undone r 0, refl)

pub list_once : (r₁ r₂ : Result ℕ Refusal) (l₁ l₂ : List (List ℕ)) → list_answer r₁ l₁ ≡ list_answer r₂ l₂ → (r₁ ≡ r₂) × (l₁ ≡ l₂)
list_once r₁ r₂ l₁ l₂ e = (
  sym (list_undone r₁ l₁).0 ∙ ap list_back e ∙ (list_undone r₂ l₂).0,
  sym (list_undone r₁ l₁).1 ∙ ap (λ (a : Answer PointsLeft). a.left.list) e ∙ (list_undone r₂ l₂).1,
)

pub list_determined : (κs : Lfts 2) (a : Dens κs list-kinds.ps) (r₁ r₂ : Result ℕ Refusal) (x₁ x₂ : AtExit (ended_of 2 list-kinds.ps list-kinds.r) κs) →
    list.Post κs a r₁ x₁ → list.Post κs a r₂ x₂ → (r₁ ≡ r₂) × (x₁.1.1.1.1.1.1.0.now ≡ x₂.1.1.1.1.1.1.0.now)
list_determined κs a r₁ r₂ x₁ x₂ h₁ h₂ = list_once r₁ r₂ _ _ (h₁ ∙ sym h₂)
