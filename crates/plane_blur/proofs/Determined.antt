-- Whatever the contract of `blur_planes` allows of one call is one outcome: any two answers with the buffers at exit coincide.
use mathlib.Core.Path.{◌≡◌, ◌∙◌, sym}
use contract.Lifetimes.{Lfts}
use borrow.Fn.Kinds.{Dens, ended_of}
use denote.Triple.Clauses.{AtExit}
use Rattle.std.proofs.Common.{Result}
use Rattle.picture.specs.declared.checks.Refusal.{Refusal}
use Rattle.picture.proofs.Answers.{lent_once}
use Rattle.picture.proofs.Refused.{answer_once}
use Rattle.plane_blur.proofs.blur_planes.Reads as blur
use Rattle.plane_blur.proofs.blur_planes.Kinds as blur-kinds

pub blur_planes_determined : (κs : Lfts 3) (a : Dens κs blur-kinds.ps) (r₁ r₂ : Result Unit Refusal) (x₁ x₂ : AtExit (ended_of 3 blur-kinds.ps blur-kinds.r) κs) →
    blur.Post κs a r₁ x₁ → blur.Post κs a r₂ x₂ →
    (r₁ ≡ r₂) × (x₁.0.now ≡ x₂.0.now) × (x₁.1.1.1.0.now ≡ x₂.1.1.1.0.now)
blur_planes_determined κs a r₁ r₂ x₁ x₂ h₁ h₂ = let o = lent_once (h₁ ∙ sym h₂) in (answer_once o.0, o.1, o.2)
