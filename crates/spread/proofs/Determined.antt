-- Any two answers that the entry's contract allows of one call are one.
use mathlib.Core.Path.{◌≡◌, ◌∙◌, sym}
use contract.Lifetimes.{Lfts}
use borrow.Fn.Kinds.{Dens, ended_of}
use denote.Triple.Clauses.{AtExit}
use Rattle.std.specs.Prelude.{Result}
use Rattle.picture.specs.declared.checks.Refusal.{Refusal}
use Rattle.spread.specs.declared.Spread.{Spread}
use Rattle.spread.proofs.Injective.{report_injective}
use Rattle.spread.proofs.report.Reads as report
use Rattle.spread.proofs.report.Kinds as report-kinds

pub report_determined : (κs : Lfts 1) (a : Dens κs report-kinds.ps) (r₁ r₂ : Result Spread Refusal) (x₁ x₂ : AtExit (ended_of 1 report-kinds.ps report-kinds.r) κs) →
    report.Post κs a r₁ x₁ → report.Post κs a r₂ x₂ → r₁ ≡ r₂
report_determined κs a r₁ r₂ x₁ x₂ h₁ h₂ = report_injective r₁ r₂ (h₁ ∙ sym h₂)
