-- Lists of recipes for C: whatever the contract allows of one call is one, two runs in different memory that are given the same leave the same, and the contract can be met.
use mathlib.Core.Path.{◌≡◌, ◌∙◌, refl, sym, ap}
use mathlib.Core.List.{List}
use Prim.Native.Nat.{ℕ}
use contract.Lifetimes.{Lfts}
use denote.Triple.Clauses.{Lasts, AtExit, at_exit}
use denote.Triple.Entry.{Args}
use lib.Ieee.{Float}
use Rattle.picture.specs.Answer.{Answer}
use Rattle.recipe_checks.specs.declared.Step.{Step}
use Rattle.recipes.specs.Chain.{ChainLeft, chain_outcome}
use Rattle.face_recipes.specs.contracts.corbelrush_recipes as face
use Rattle.recipe_laws.specs.Promised.{seen, Post}

-- what a call is given: numbers, and what is behind each pointer that it reads
abbrev RecipesGiven : Type 0
RecipesGiven = List ℕ × ℕ × ℕ × List ℕ × List ℕ × List Step × List Float

abbrev recipes_given : (κs : Lfts 6) → Args face.signature κs → RecipesGiven
recipes_given κs a =
    let rest = a.1.1.1 in
    (a.0.now, a.1.0, a.1.1.0, rest.0.now, rest.1.0.now, rest.1.1.0.now, rest.1.1.1.0.now)

abbrev recipes_leaves : RecipesGiven → Answer ChainLeft
recipes_leaves g = chain_outcome g.0 g.1 g.2 g.3 g.4 g.5 g.6

pub recipes_determined : (κs : Lfts 6) (a : Args face.signature κs) (r₁ r₂ : ℕ) (x₁ x₂ : AtExit face.ended κs) → Post κs a r₁ x₁ → Post κs a r₂ x₂ → seen κs r₁ x₁ ≡ seen κs r₂ x₂
recipes_determined κs a r₁ r₂ x₁ x₂ h₁ h₂ = h₁ ∙ sym h₂

pub recipes_runs : (κ₁ κ₂ : Lfts 6) (a₁ : Args face.signature κ₁) (a₂ : Args face.signature κ₂) → recipes_given κ₁ a₁ ≡ recipes_given κ₂ a₂ →
    (r₁ r₂ : ℕ) (x₁ : AtExit face.ended κ₁) (x₂ : AtExit face.ended κ₂) → Post κ₁ a₁ r₁ x₁ → Post κ₂ a₂ r₂ x₂ → seen κ₁ r₁ x₁ ≡ seen κ₂ r₂ x₂
recipes_runs κ₁ κ₂ a₁ a₂ same r₁ r₂ x₁ x₂ h₁ h₂ = h₁ ∙ ap recipes_leaves same ∙ sym h₂

-- for all arguments there are a number and last values that satisfy it
pub record RecipesMet : Type 0 where
  pub number : (κs : Lfts 6) → Args face.signature κs → ℕ
  pub left : (κs : Lfts 6) (a : Args face.signature κs) → Lasts face.ended κs a
  pub meets : (κs : Lfts 6) (a : Args face.signature κs) → Post κs a (number κs a) (at_exit face.ended κs a (left κs a))

pub recipes_met : RecipesMet
recipes_met =
    record {
      number = λ κs a. (recipes_leaves (recipes_given κs a)).number;
      left = λ κs a.
          let l = (recipes_leaves (recipes_given κs a)).left in
          (l.buffers.picture, (tt, (tt, (l.buffers.scratch, (l.buffers.copy, (tt, (tt, (l.index, tt))))))));
      meets = λ κs a. refl;
    }
