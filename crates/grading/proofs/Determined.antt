-- Any two answers that an entry's contract allows of one call are one.
use mathlib.Core.Path.{◌≡◌, ◌∙◌, sym}
use seplogic.Ra.Ura.{Ura}
use base.Logic.{SProp, ent, sep, fst∗, snd∗}
use prog.Memory.{Memory}
use prog.Routine.{Routine}
use types.Logic.{Logic}
use contract.Lifetimes.{Lfts}
use contract.Monad.{Fun, fact, fact_i, fact_use}
use borrow.Fn.Kinds.{Dens, ended_of}
use denote.Triple.Clauses.{AtExit}
use denote.Triple.Entry.{Args}
use Rattle.std.specs.Prelude.{Option, Result}
use Rattle.picture.specs.declared.Pixel.{Pixel}
use Rattle.picture.specs.declared.checks.Refusal.{Refusal}
use Rattle.grading.specs.Sampling.{seen}
use Rattle.grading.specs.declared.premultiplied.Place.{Place}
use Rattle.grading.specs.declared.sampling.View.{View}
use Rattle.grading.proofs.Injective.{finding_injective}
use Rattle.picture.proofs.Refused.{number_of_once}
use Rattle.grading.proofs.premultiplied.check.Reads as check
use Rattle.grading.proofs.premultiplied.check.Kinds as check-kinds
use Rattle.grading.proofs.sampling.check_view.Reads as check-view
use Rattle.grading.proofs.sampling.check_view.Kinds as check-view-kinds
use Rattle.grading.proofs.sampling.sample_at.Reads as sample-at
use Rattle.grading.proofs.sampling.sample_at.Kinds as sample-at-kinds
use Rattle.grading.specs.contracts.sampling.sample as sample
use Rattle.grading.specs.contracts.sampling.view_of as view_of

pub check_determined : (κs : Lfts 1) (a : Dens κs check-kinds.ps) (r₁ r₂ : Result (Option Place) Refusal) (x₁ x₂ : AtExit (ended_of 1 check-kinds.ps check-kinds.r) κs) →
    check.Post κs a r₁ x₁ → check.Post κs a r₂ x₂ → r₁ ≡ r₂
check_determined κs a r₁ r₂ x₁ x₂ h₁ h₂ = finding_injective r₁ r₂ (h₁ ∙ sym h₂)

pub check_view_determined : (κs : Lfts 1) (a : Dens κs check-view-kinds.ps) (r₁ r₂ : Result Unit Refusal) (x₁ x₂ : AtExit (ended_of 1 check-view-kinds.ps check-view-kinds.r) κs) →
    check-view.Post κs a r₁ x₁ → check-view.Post κs a r₂ x₂ → r₁ ≡ r₂
check_view_determined κs a r₁ r₂ x₁ x₂ h₁ h₂ = number_of_once r₁ r₂ (h₁ ∙ sym h₂)

pub sample_at_determined : (κs : Lfts 1) (a : Dens κs sample-at-kinds.ps) (r₁ r₂ : Pixel) (x₁ x₂ : AtExit (ended_of 1 sample-at-kinds.ps sample-at-kinds.r) κs) →
    sample-at.Post κs a r₁ x₁ → sample-at.Post κs a r₂ x₂ → r₁ ≡ r₂
sample_at_determined κs a r₁ r₂ x₁ x₂ h₁ h₂ = h₁ ∙ sym h₂

-- of the two that are walked by hand, the contract is read in the logic itself
module _ {M : Type 1} (𝓤 : Ura M) where
  same : {A : Type 0} {x y z : A} → ent 𝓤 (sep 𝓤 (fact 𝓤 (x ≡ z)) (fact 𝓤 (y ≡ z))) (fact 𝓤 (x ≡ y))
  same {x} {y} {z} =
      fact_use 𝓤 (x ≡ z) (fst∗ 𝓤 (fact 𝓤 (x ≡ z)) (fact 𝓤 (y ≡ z)))
      (λ h₁. fact_use 𝓤 (y ≡ z) (snd∗ 𝓤 (fact 𝓤 (x ≡ z)) (fact 𝓤 (y ≡ z))) (λ h₂. fact_i 𝓤 (x ≡ y) _ (h₁ ∙ sym h₂)))

  module _ (𝓛 : Logic 𝓤) (mem : Memory → SProp 𝓤) (run : Routine → Fun 𝓤) (κs : Lfts 1) where
    pub sample_determined : (a : Args sample.signature κs) (r₁ r₂ : Pixel) (x₁ x₂ : AtExit sample.ended κs) →
        let post = (sample.clauses 𝓛 mem run κs a).ensures tt in ent 𝓤 (sep 𝓤 (post r₁ x₁) (post r₂ x₂)) (fact 𝓤 (r₁ ≡ r₂))
    sample_determined a r₁ r₂ x₁ x₂ = same

    -- but for its slice's ghost name, which no program sees
    pub view_of_determined : (a : Args view_of.signature κs) (r₁ r₂ : View) (x₁ x₂ : AtExit view_of.ended κs) →
        let post = (view_of.clauses 𝓛 mem run κs a).ensures tt in ent 𝓤 (sep 𝓤 (post r₁ x₁) (post r₂ x₂)) (fact 𝓤 (seen r₁ ≡ seen r₂))
    view_of_determined a r₁ r₂ x₁ x₂ = same
