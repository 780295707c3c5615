-- Whatever a contract allows of one call is one outcome: any two answers coincide.
use mathlib.Core.Path.{◌≡◌, refl, ◌∙◌, sym}
use Prim.Native.Nat.{ℕ}
use contract.Lifetimes.{Lfts}
use borrow.Fn.Kinds.{Dens, ended_of}
use denote.Triple.Clauses.{AtExit}
use Rattle.std.specs.Prelude.{Result, Ok, Err}
use Rattle.picture.specs.Answer.{Answer}
use Rattle.picture.specs.declared.checks.Refusal.{Refusal}
use Rattle.picture.proofs.Refused.{answer_of, answer_undone}
use Rattle.picture.proofs.Answers.{undone}
use Rattle.shares.specs.Outcome.{share_answer}
use Rattle.shares.proofs.single.share.Reads as share
use Rattle.shares.proofs.single.share.Kinds as share-kinds

-- an answer can be read back from its number and its share
share_back : Answer ℕ → Result ℕ Refusal
share_back a = answer_of a.number a.left

share_undone : (r : Result ℕ Refusal) → share_back (share_answer r) ≡ r
unfolding share_back answer_of
share_undone (Ok s) = refl
share_undone (Err r) = answer_undone r 0

pub share_determined : (κs : Lfts 1) (a : Dens κs share-kinds.ps) (r₁ r₂ : Result ℕ Refusal) (x₁ x₂ : AtExit (ended_of 1 share-kinds.ps share-kinds.r) κs) →
    share.Post κs a r₁ x₁ → share.Post κs a r₂ x₂ → r₁ ≡ r₂
share_determined κs a r₁ r₂ x₁ x₂ h₁ h₂ = undone share_answer share_back share_undone r₁ r₂ (h₁ ∙ sym h₂)
