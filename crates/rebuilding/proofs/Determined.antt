-- Whatever the contract allows of one call is one outcome: any two answers, with the picture as it is left, coincide.
use mathlib.Core.Path.{◌≡◌, ap, ◌∙◌, sym}
use mathlib.Core.List.{List}
use Prim.Native.Nat.{ℕ}
use contract.Lifetimes.{Lfts}
use borrow.Fn.Kinds.{Dens, ended_of}
use denote.Triple.Clauses.{AtExit}
use Rattle.std.specs.Prelude.{Result}
use Rattle.picture.specs.Answer.{Answer}
use Rattle.picture.specs.declared.checks.Refusal.{Refusal}
use Rattle.picture.proofs.Refused.{number_of_once}
use Rattle.rebuilding.proofs.rebuilder.rebuild.Reads as rebuild
use Rattle.rebuilding.proofs.rebuilder.rebuild.Kinds as rebuild-kinds

pub rebuild_determined : (κs : Lfts 2) (a : Dens κs rebuild-kinds.ps) (r₁ r₂ : Result Unit Refusal) (x₁ x₂ : AtExit (ended_of 2 rebuild-kinds.ps rebuild-kinds.r) κs) →
    rebuild.Post κs a r₁ x₁ → rebuild.Post κs a r₂ x₂ → (r₁ ≡ r₂) × (x₁.0.now ≡ x₂.0.now)
rebuild_determined κs a r₁ r₂ x₁ x₂ h₁ h₂ =
    (number_of_once r₁ r₂ (ap (λ (o : Answer (List ℕ)). o.number) (h₁ ∙ sym h₂)), ap (λ (o : Answer (List ℕ)). o.left) (h₁ ∙ sym h₂))
