-- Whatever the contract of `shadow_planes` allows of one call is one outcome: any two answers with the buffers at exit coincide.
use mathlib.Core.Path.{◌≡◌, ◌∙◌, sym, ap}
use contract.Lifetimes.{Lfts}
use borrow.Fn.Kinds.{Dens, ended_of}
use denote.Triple.Clauses.{AtExit}
use Rattle.std.proofs.Common.{Result}
use Rattle.picture.specs.Answer.{Answer, LentCopy}
use Rattle.picture.specs.declared.checks.Refusal.{Refusal}
use Rattle.picture.proofs.Refused.{answer_once}
use Rattle.plane_shadow.proofs.shadow_planes.Reads as shadow
use Rattle.plane_shadow.proofs.shadow_planes.Kinds as shadow-kinds

pub shadow_planes_determined : (κs : Lfts 4) (a : Dens κs shadow-kinds.ps) (r₁ r₂ : Result Unit Refusal) (x₁ x₂ : AtExit (ended_of 4 shadow-kinds.ps shadow-kinds.r) κs) →
    shadow.Post κs a r₁ x₁ → shadow.Post κs a r₂ x₂ →
    (r₁ ≡ r₂) × (x₁.0.now ≡ x₂.0.now) × (x₁.1.1.1.0.now ≡ x₂.1.1.1.0.now) × (x₁.1.1.1.1.0.now ≡ x₂.1.1.1.1.0.now)
shadow_planes_determined κs a r₁ r₂ x₁ x₂ h₁ h₂ =
    let e = h₁ ∙ sym h₂ in
    (answer_once (ap (λ (o : Answer LentCopy). o.number) e), ap (λ (o : Answer LentCopy). o.left.picture) e, ap (λ (o : Answer LentCopy). o.left.scratch) e, ap (λ (o : Answer LentCopy). o.left.copy) e)
