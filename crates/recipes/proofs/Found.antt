-- What is found of a list: the first bad recipe stays, and where none is bad every recipe is good.
use mathlib.Core.Path.{◌≡◌, refl, ◌∙◌, ap}
use mathlib.Core.Bool.{Bool, true, false, cond}
use mathlib.Core.List.{List, [], ◌∷◌}
use Prim.Native.Nat.{ℕ, suc}
use lib.Dec.{eqb}
use lib.Ieee.{Float}
use borrow.Author.Tests.{eqb-true, eqb-false, ne_eqb}
use Rattle.recipe_checks.specs.declared.Step.{Step}
use Rattle.recipe_checks.specs.Own.{Chained, own_number, found}
use Rattle.recipes.specs.Chain.{first_bad, noted, all_noted}

-- nothing found: 1 to 3 let through, and no recipe is bad
pub none_by : (table : List Float) (steps : List Step) (frame : ℕ) (b : Bool) → eqb frame 0 ≡ b → (cond b (first_bad table 0 steps) (found frame 0)).number ≡ 0 → (frame ≡ 0) × ((first_bad table 0 steps).number ≡ 0)
none_by table steps frame true e z = (eqb-true frame 0 e, z)
none_by table steps frame false e z = absurd (eqb-false frame 0 e z)

head_by : (number i : ℕ) (later : Chained) (b : Bool) → eqb number 0 ≡ b → (cond b later (found number i)).number ≡ 0 → (number ≡ 0) × (later.number ≡ 0)
head_by number i later true e z = (eqb-true number 0 e, z)
head_by number i later false e z = absurd (eqb-false number 0 e z)

-- no recipe is bad: neither the first nor a later one
pub head_good : (table : List Float) (i : ℕ) (step : Step) (steps : List Step) → (first_bad table i (step ∷ steps)).number ≡ 0 → (own_number table step ≡ 0) × ((first_bad table (suc i) steps).number ≡ 0)
unfolding first_bad
head_good table i step steps z = head_by (own_number table step) i (first_bad table (suc i) steps) (eqb (own_number table step) 0) refl z

good_by : (number i : ℕ) (later : Chained) (b : Bool) → eqb number 0 ≡ b → (later.number ≡ 0 → later ≡ found 0 0) → (cond b later (found number i)).number ≡ 0 → cond b later (found number i) ≡ found 0 0
good_by number i later true e ih z = ih z
good_by number i later false e ih z = absurd (eqb-false number 0 e z)

-- where none is bad the index is 0
pub none_bad : (table : List Float) (i : ℕ) (steps : List Step) → (first_bad table i steps).number ≡ 0 → first_bad table i steps ≡ found 0 0
unfolding first_bad
none_bad table i [] z = refl
none_bad table i (step ∷ steps) z = good_by (own_number table step) i (first_bad table (suc i) steps) (eqb (own_number table step) 0) refl (none_bad table (suc i) steps) z

-- ---- looking at all recipes, whatever was found before
kept : (before : Chained) (i k : ℕ) → (before.number ≡ 0 → ⊥) → noted before i k ≡ before
unfolding noted
kept before i k f = rw (ne_eqb before.number 0 f)

-- a refusal found stays
stays : (table : List Float) (i : ℕ) (steps : List Step) (before : Chained) → (before.number ≡ 0 → ⊥) → all_noted table i steps before ≡ before
unfolding all_noted
stays table i [] before f = refl
stays table i (step ∷ steps) before f = ap (all_noted table (suc i) steps) (kept before i (own_number table step) f) ∙ stays table (suc i) steps before f

first_found : (table : List Float) (i : ℕ) (step : Step) (steps : List Step) → all_noted table (suc i) steps (found 0 0) ≡ first_bad table (suc i) steps →
    (b : Bool) → eqb (own_number table step) 0 ≡ b →
    all_noted table (suc i) steps (noted (found 0 0) i (own_number table step)) ≡ cond b (first_bad table (suc i) steps) (found (own_number table step) i)
unfolding noted
first_found table i step steps later true e = rw e later
first_found table i step steps later false e = rw e (stays table (suc i) steps (found (own_number table step) i) (eqb-false (own_number table step) 0 e))

-- looking at all from nothing found is the first bad recipe
pub is_first : (table : List Float) (i : ℕ) (steps : List Step) → all_noted table i steps (found 0 0) ≡ first_bad table i steps
unfolding all_noted first_bad
is_first table i [] = refl
is_first table i (step ∷ steps) = first_found table i step steps (is_first table (suc i) steps) (eqb (own_number table step) 0) refl
