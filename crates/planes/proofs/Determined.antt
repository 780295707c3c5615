-- Whatever the contract of `to_planes` or `from_planes` allows of one call is one outcome: any two answers with the bytes at exit coincide.
use mathlib.Core.Path.{◌≡◌, ◌∙◌, sym, ap}
use mathlib.Core.List.{List}
use Prim.Native.Nat.{ℕ}
use contract.Lifetimes.{Lfts}
use borrow.Fn.Kinds.{Dens, ended_of}
use denote.Triple.Clauses.{AtExit}
use Rattle.std.proofs.Common.{Result}
use Rattle.picture.specs.Answer.{Answer, answered}
use Rattle.picture.specs.Refusal.{number_of}
use Rattle.picture.specs.declared.checks.Refusal.{Refusal}
use Rattle.picture.proofs.Refused.{answer_once}
use Rattle.planes.proofs.to_planes.Reads as to
use Rattle.planes.proofs.to_planes.Kinds as to-kinds
use Rattle.planes.proofs.from_planes.Reads as from
use Rattle.planes.proofs.from_planes.Kinds as from-kinds

once : {r₁ r₂ : Result Unit Refusal} {d₁ d₂ : List ℕ} → answered (number_of r₁) d₁ ≡ answered (number_of r₂) d₂ → (r₁ ≡ r₂) × (d₁ ≡ d₂)
once e = (answer_once (ap (λ (o : Answer (List ℕ)). o.number) e), ap (λ (o : Answer (List ℕ)). o.left) e)

pub to_planes_determined : (κs : Lfts 2) (a : Dens κs to-kinds.ps) (r₁ r₂ : Result Unit Refusal) (x₁ x₂ : AtExit (ended_of 2 to-kinds.ps to-kinds.r) κs) →
    to.Post κs a r₁ x₁ → to.Post κs a r₂ x₂ → (r₁ ≡ r₂) × (x₁.1.1.1.0.now ≡ x₂.1.1.1.0.now)
to_planes_determined κs a r₁ r₂ x₁ x₂ h₁ h₂ = once (h₁ ∙ sym h₂)

pub from_planes_determined : (κs : Lfts 2) (a : Dens κs from-kinds.ps) (r₁ r₂ : Result Unit Refusal) (x₁ x₂ : AtExit (ended_of 2 from-kinds.ps from-kinds.r) κs) →
    from.Post κs a r₁ x₁ → from.Post κs a r₂ x₂ → (r₁ ≡ r₂) × (x₁.1.1.1.0.now ≡ x₂.1.1.1.0.now)
from_planes_determined κs a r₁ r₂ x₁ x₂ h₁ h₂ = once (h₁ ∙ sym h₂)
