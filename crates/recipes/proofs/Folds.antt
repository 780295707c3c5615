-- Laws of the recipes of a list, one after the other: one more, and none left.
use mathlib.Core.Path.{◌≡◌, refl, sym, ◌∙◌, ap}
use mathlib.Core.Bool.{Bool, true, false, cond}
use mathlib.Core.List.{List}
use Prim.Native.Nat.{ℕ, suc, ◌<◌, ◌≤◌}
use lib.Dec.{eqb}
use lib.Ieee.{Float}
use lib.ListN.{length, get_or, drop, drop_of_length-le}
use lib.Seq.{drop-cons}
use borrow.Author.Tests.{eqb-true, eq-eqb}
use Rattle.picture.specs.Answer.{LentCopy}
use Rattle.recipe_checks.specs.declared.Step.{Step}
use Rattle.recipe_checks.specs.Own.{Chained, own_number, found}
use Rattle.recipe_checks.specs.Single.{single_call}
use Rattle.recipes.specs.Chain.{no_step, first_bad, all_ran}

-- a recipe whose check found nothing is good, and one of which it found something is not
good_by : (k i : ℕ) (b : Bool) → eqb k 0 ≡ b → found 0 0 ≡ cond b (found 0 0) (found k i) → k ≡ 0
good_by k i true t e = eqb-true k 0 t
good_by k i false t e = sym (ap (λ (d : Chained). d.number) e)

bad_by : (k i : ℕ) (later d : Chained) → (d.number ≡ 0 → ⊥) → (b : Bool) → d ≡ cond b (found 0 0) (found k i) → d ≡ cond b later (found k i)
bad_by k i later d f true e = absurd (f (ap (λ (d : Chained). d.number) e))
bad_by k i later d f false e = e

module _ (table : List Float) (steps : List Step) (i : ℕ) (l : i < length steps) where
  abbrev own : ℕ
  own = own_number table (get_or steps i no_step)

  pub good_here : found 0 0 ≡ cond (eqb own 0) (found 0 0) (found own i) → first_bad table i (drop i steps) ≡ first_bad table (suc i) (drop (suc i) steps)
  unfolding first_bad
  good_here e =
      let good : own ≡ 0 = good_by own i (eqb own 0) refl e in
      ap (first_bad table i) (drop-cons steps i no_step l) ∙ rw (eq-eqb own 0 good)

  pub bad_here : (d : Chained) → (d.number ≡ 0 → ⊥) → d ≡ cond (eqb own 0) (found 0 0) (found own i) → d ≡ first_bad table i (drop i steps)
  unfolding first_bad
  bad_here d f e = bad_by own i (first_bad table (suc i) (drop (suc i) steps)) d f (eqb own 0) e ∙ sym (ap (first_bad table i) (drop-cons steps i no_step l))

pub none_left : (table : List Float) (steps : List Step) (i : ℕ) → length steps ≤ i → first_bad table i (drop i steps) ≡ found 0 0
unfolding first_bad
none_left table steps i l = ap (first_bad table i) (drop_of_length-le steps l)

pub ran_more : (table : List Float) (w h : ℕ) (steps : List Step) (i : ℕ) (l : LentCopy) → i < length steps →
    all_ran table w h (drop i steps) l ≡ all_ran table w h (drop (suc i) steps) (single_call table w h (get_or steps i no_step) l).left
unfolding all_ran
ran_more table w h steps i l small = ap (λ (rest : List Step). all_ran table w h rest l) (drop-cons steps i no_step small)

pub none_ran : (table : List Float) (w h : ℕ) (steps : List Step) (i : ℕ) (l : LentCopy) → length steps ≤ i → all_ran table w h (drop i steps) l ≡ l
unfolding all_ran
none_ran table w h steps i l all = ap (λ (rest : List Step). all_ran table w h rest l) (drop_of_length-le steps all)
