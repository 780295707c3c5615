-- Whatever the contracts of starting and adding allow of one call is one: any two answers with the buffers at exit coincide.
use mathlib.Core.Path.{◌≡◌, refl, ◌∙◌, sym, ap}
use mathlib.Core.Bool.{cond}
use mathlib.Core.List.{List}
use Prim.Native.Nat.{ℕ}
use contract.Lifetimes.{Lfts}
use borrow.Fn.Kinds.{Dens, ended_of}
use denote.Triple.Clauses.{AtExit}
use lib.Dec.{eqb}
use Rattle.picture.specs.Answer.{Answer}
use Rattle.std.proofs.Common.{Result, Ok, Err}
use Rattle.picture.specs.declared.checks.Refusal.{Refusal}
use Rattle.picture.proofs.Refused.{answer_of, answer_undone}
use Rattle.plate_empty.specs.Outcome.{Grown, grows}
use Rattle.plate_empty.proofs.plate_start.Reads as start
use Rattle.plate_empty.proofs.plate_start.Kinds as start-kinds
use Rattle.plate_write.proofs.plate_add.Reads as add
use Rattle.plate_write.proofs.plate_add.Kinds as add-kinds

-- an answer can be read back from what it comes to with the buffer that it leaves
abbrev back : Answer Grown → Result ℕ Refusal
back a = answer_of a.number a.left.used

back_is : (r : Result ℕ Refusal) (b : List ℕ) → back (grows r b) ≡ r
unfolding answer_of
back_is (Err r) b = answer_undone r _
back_is (Ok used) b = refl

leaves : (r : Result ℕ Refusal) (b : List ℕ) → (grows r b).left.buffer ≡ b
leaves (Err r) b = refl
leaves (Ok used) b = refl

once : (r₁ r₂ : Result ℕ Refusal) (b₁ b₂ : List ℕ) → grows r₁ b₁ ≡ grows r₂ b₂ → (r₁ ≡ r₂) × (b₁ ≡ b₂)
once r₁ r₂ b₁ b₂ e =
    (sym (back_is r₁ b₁) ∙ ap back e ∙ back_is r₂ b₂, sym (leaves r₁ b₁) ∙ ap (λ (a : Answer Grown). a.left.buffer) e ∙ leaves r₂ b₂)

pub start_determined : (κs : Lfts 1) (a : Dens κs start-kinds.ps) (r₁ r₂ : Result ℕ Refusal) (x₁ x₂ : AtExit (ended_of 1 start-kinds.ps start-kinds.r) κs) →
    start.Post κs a r₁ x₁ → start.Post κs a r₂ x₂ → (r₁ ≡ r₂) × (x₁.0.now ≡ x₂.0.now)
start_determined κs a r₁ r₂ x₁ x₂ h₁ h₂ = once r₁ r₂ _ _ (h₁ ∙ sym h₂)

pub add_determined : (κs : Lfts 2) (a : Dens κs add-kinds.ps) (r₁ r₂ : Result ℕ Refusal) (x₁ x₂ : AtExit (ended_of 2 add-kinds.ps add-kinds.r) κs) →
    add.Post κs a r₁ x₁ → add.Post κs a r₂ x₂ → (r₁ ≡ r₂) × (x₁.0.now ≡ x₂.0.now)
add_determined κs a r₁ r₂ x₁ x₂ h₁ h₂ = once r₁ r₂ _ _ (h₁ ∙ sym h₂)
