-- Whatever the contract of `recipes` allows of one call is one outcome: any two numbers and indexes with the buffers at exit coincide.
use mathlib.Core.Path.{◌≡◌, ◌∙◌, refl, sym, ap, ap₂}
use Prim.Native.Nat.{ℕ}
use native.Mathlib.Omega.{arith}
use contract.Lifetimes.{Lfts}
use denote.Triple.Clauses.{AtExit}
use denote.Triple.Entry.{Args}
use Rattle.picture.specs.Answer.{Answer}
use Rattle.std.proofs.Common.{Result, Ok, Err}
use Rattle.picture.specs.Refusal.{number}
use Rattle.picture.specs.declared.checks.Refusal.{Refusal}
use Rattle.picture.proofs.Refused.{number_some, number_once}
use Rattle.recipe_checks.specs.declared.Stopped.{Stopped}
use Rattle.recipe_checks.specs.Own.{Chained, stopped_at, told}
use Rattle.recipes.specs.Chain.{ChainLeft}
use Rattle.recipes.proofs.Promised.{Post}
use Rattle.recipes.specs.contracts.recipes as entry

-- no two answers have one number and one index
told_once : (a b : Result Unit Stopped) → told a ≡ told b → a ≡ b
told_once (Ok x) (Ok y) e = refl
told_once (Ok x) (Err t) e = let z : 0 ≡ number t.refusal = ap (λ (d : Chained). d.number) e in absurd (omega (arith, number_some t.refusal))
told_once (Err s) (Ok y) e = let z : number s.refusal ≡ 0 = ap (λ (d : Chained). d.number) e in absurd (omega (arith, number_some s.refusal))
told_once (Err s) (Err t) e =
    ap₂ (λ (r : Refusal) (i : ℕ). Err (stopped_at r i)) (number_once s.refusal t.refusal (ap (λ (d : Chained). d.number) e)) (ap (λ (d : Chained). d.index) e)

pub determined : (κs : Lfts 5) (a : Args entry.signature κs) (r₁ r₂ : Result Unit Stopped) (x₁ x₂ : AtExit entry.ended κs) → Post κs a r₁ x₁ → Post κs a r₂ x₂ →
    (r₁ ≡ r₂) × (x₁.0.now ≡ x₂.0.now) × (x₁.1.1.1.0.now ≡ x₂.1.1.1.0.now) × (x₁.1.1.1.1.0.now ≡ x₂.1.1.1.1.0.now)
determined κs a r₁ r₂ x₁ x₂ h₁ h₂ =
    let e = h₁ ∙ sym h₂ in (
      told_once r₁ r₂ (ap (λ (o : Answer ChainLeft). record { number = o.number; index = o.left.index }) e),
      ap (λ (o : Answer ChainLeft). o.left.buffers.picture) e,
      ap (λ (o : Answer ChainLeft). o.left.buffers.scratch) e,
      ap (λ (o : Answer ChainLeft). o.left.buffers.copy) e,
    )
