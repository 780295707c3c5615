-- Whatever `shift_planes`'s contract allows of one call is one outcome: any two answers with the planes at exit coincide.
use mathlib.Core.Path.{◌≡◌, ◌∙◌, sym, ap}
use mathlib.Core.List.{List}
use Prim.Native.Nat.{ℕ}
use contract.Lifetimes.{Lfts}
use borrow.Fn.Kinds.{Dens, ended_of}
use denote.Triple.Clauses.{AtExit}
use Rattle.std.proofs.Common.{Result}
use Rattle.picture.specs.Answer.{Answer}
use Rattle.picture.specs.declared.checks.Refusal.{Refusal}
use Rattle.picture.proofs.Refused.{answer_once}
use Rattle.plane_shift.proofs.shift_planes.Reads as shift
use Rattle.plane_shift.proofs.shift_planes.Kinds as kinds

pub determined : (κs : Lfts 1) (a : Dens κs kinds.ps) (r₁ r₂ : Result Unit Refusal) (x₁ x₂ : AtExit (ended_of 1 kinds.ps kinds.r) κs) →
    shift.Post κs a r₁ x₁ → shift.Post κs a r₂ x₂ → (r₁ ≡ r₂) × (x₁.0.now ≡ x₂.0.now)
determined κs a r₁ r₂ x₁ x₂ h₁ h₂ =
    let e = h₁ ∙ sym h₂ in
    (answer_once (ap (λ (o : Answer (List ℕ)). o.number) e), ap (λ (o : Answer (List ℕ)). o.left) e)
