-- Whatever `blur_whole`'s contract allows of one call is one outcome: any two answers with the buffers at exit coincide.
use mathlib.Core.Path.{◌≡◌, ◌∙◌, sym}
use contract.Lifetimes.{Lfts}
use borrow.Fn.Kinds.{Dens, ended_of}
use denote.Triple.Clauses.{AtExit}
use Rattle.std.proofs.Common.{Result}
use Rattle.picture.specs.declared.checks.Refusal.{Refusal}
use Rattle.picture.proofs.Answers.{lent_once}
use Rattle.picture.proofs.Refused.{answer_once}
use Rattle.whole_blur.proofs.blur_whole.Reads as blur-whole
use Rattle.whole_blur.proofs.blur_whole.Kinds as kinds

pub determined : (κs : Lfts 3) (a : Dens κs kinds.ps) (r₁ r₂ : Result Unit Refusal) (x₁ x₂ : AtExit (ended_of 3 kinds.ps kinds.r) κs) →
    blur-whole.Post κs a r₁ x₁ → blur-whole.Post κs a r₂ x₂ →
    (r₁ ≡ r₂) × (x₁.0.now ≡ x₂.0.now) × (x₁.1.1.1.0.now ≡ x₂.1.1.1.0.now)
determined κs a r₁ r₂ x₁ x₂ h₁ h₂ = let o = lent_once (h₁ ∙ sym h₂) in (answer_once o.0, o.1, o.2)
