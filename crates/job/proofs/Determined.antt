-- Whatever the contract of the job allows of one call is one outcome: any two numbers with the buffers at exit coincide.
use mathlib.Core.Path.{◌≡◌, ◌∙◌, sym}
use contract.Lifetimes.{Lfts}
use borrow.Fn.Kinds.{Dens, ended_of}
use denote.Triple.Clauses.{AtExit}
use Rattle.std.proofs.Common.{Result}
use Rattle.picture.specs.declared.checks.Refusal.{Refusal}
use Rattle.picture.proofs.Answers.{lent_once}
use Rattle.picture.proofs.Refused.{answer_once}
use Rattle.job.proofs.plate_job.Reads as job
use Rattle.job.proofs.plate_job.Kinds as kinds

pub determined : (κs : Lfts 2) (a : Dens κs kinds.ps) (r₁ r₂ : Result Unit Refusal) (x₁ x₂ : AtExit (ended_of 2 kinds.ps kinds.r) κs) →
    job.Post κs a r₁ x₁ → job.Post κs a r₂ x₂ → (r₁ ≡ r₂) × (x₁.0.now ≡ x₂.0.now) × (x₁.1.0.now ≡ x₂.1.0.now)
determined κs a r₁ r₂ x₁ x₂ h₁ h₂ = let o = lent_once (h₁ ∙ sym h₂) in (answer_once o.0, o.1, o.2)
