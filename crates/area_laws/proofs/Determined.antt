-- Whatever a contract allows of one call is one outcome: any two answers, with the table as it is left, coincide.
use mathlib.Core.Path.{◌≡◌, refl, ap, ◌∙◌, sym}
use mathlib.Core.List.{List}
use Prim.Native.Nat.{ℕ}
use contract.Lifetimes.{Lfts}
use borrow.Fn.Kinds.{Dens, ended_of}
use denote.Triple.Clauses.{AtExit}
use Rattle.std.specs.Prelude.{Result, Ok, Err}
use Rattle.picture.specs.Answer.{Answer, answered}
use Rattle.picture.specs.Refusal.{number_of}
use Rattle.picture.specs.declared.checks.Refusal.{Refusal}
use Rattle.picture.proofs.Answers.{undone}
use Rattle.picture.proofs.Refused.{number_of_once, answer_of, answer_undone}
use Rattle.area_boxes.specs.Outcome.{box_answer}
use Rattle.area_boxes.specs.declared.boxes.AreaSum.{AreaSum}
use Rattle.area_boxes.proofs.boxes.box_sum.Reads as box
use Rattle.area_boxes.proofs.boxes.box_sum.Kinds as box-kinds
use Rattle.area.proofs.builder.build.Reads as build
use Rattle.area.proofs.builder.build.Kinds as build-kinds
use Rattle.area_updates.proofs.updater.update.Reads as update
use Rattle.area_updates.proofs.updater.update.Kinds as update-kinds

-- two calls that come to one answer have one result and leave one table
pub table_once : {r₁ r₂ : Result Unit Refusal} {t₁ t₂ : List ℕ} → answered (number_of r₁) t₁ ≡ answered (number_of r₂) t₂ → (r₁ ≡ r₂) × (t₁ ≡ t₂)
table_once {r₁} {r₂} e = (number_of_once r₁ r₂ (ap (λ (o : Answer (List ℕ)). o.number) e), ap (λ (o : Answer (List ℕ)). o.left) e)

pub build_determined : (κs : Lfts 2) (a : Dens κs build-kinds.ps) (r₁ r₂ : Result Unit Refusal) (x₁ x₂ : AtExit (ended_of 2 build-kinds.ps build-kinds.r) κs) →
    build.Post κs a r₁ x₁ → build.Post κs a r₂ x₂ → (r₁ ≡ r₂) × (x₁.1.1.1.0.now ≡ x₂.1.1.1.0.now)
build_determined κs a r₁ r₂ x₁ x₂ h₁ h₂ = table_once (h₁ ∙ sym h₂)

-- a box's answer can be read back from its number and sum
box_back : Answer ℕ → Result AreaSum Refusal
box_back a = answer_of a.number (record { alphas = a.left })

box_undone : (r : Result AreaSum Refusal) → box_back (box_answer r) ≡ r
unfolding box_back answer_of
box_undone (Ok s) = refl
box_undone (Err r) = answer_undone r (record { alphas = 0 })

pub box_once : (r₁ r₂ : Result AreaSum Refusal) → box_answer r₁ ≡ box_answer r₂ → r₁ ≡ r₂
box_once = undone box_answer box_back box_undone

pub box_determined : (κs : Lfts 1) (a : Dens κs box-kinds.ps) (r₁ r₂ : Result AreaSum Refusal) (x₁ x₂ : AtExit (ended_of 1 box-kinds.ps box-kinds.r) κs) →
    box.Post κs a r₁ x₁ → box.Post κs a r₂ x₂ → r₁ ≡ r₂
box_determined κs a r₁ r₂ x₁ x₂ h₁ h₂ = box_once r₁ r₂ (h₁ ∙ sym h₂)

pub update_determined : (κs : Lfts 1) (a : Dens κs update-kinds.ps) (r₁ r₂ : Result Unit Refusal) (x₁ x₂ : AtExit (ended_of 1 update-kinds.ps update-kinds.r) κs) →
    update.Post κs a r₁ x₁ → update.Post κs a r₂ x₂ → (r₁ ≡ r₂) × (x₁.0.now ≡ x₂.0.now)
update_determined κs a r₁ r₂ x₁ x₂ h₁ h₂ = table_once (h₁ ∙ sym h₂)
