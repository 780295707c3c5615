-- What a chain comes to: refused as it was found, or done.
use mathlib.Core.Path.{◌≡◌, refl, sym, ◌∙◌, ap}
use mathlib.Core.List.{List, [], ◌∷◌}
use Prim.Native.Nat.{ℕ, suc}
use lib.Dec.{lit<}
use lib.Ieee.{Float}
use lib.ListN.{length}
use borrow.Author.Tests.{eq-eqb, ne_eqb}
use Rattle.picture.specs.Planes.{bytes_of, cleared}
use Rattle.picture.specs.Refusal.{first_of, too_short}
use Rattle.picture.specs.Answer.{LentCopy, lent_copy, settled}
use Rattle.picture.proofs.Passed.{passed}
use Rattle.picture.proofs.Sizes.{whole}
use Rattle.picture.proofs.Tests.{neither}
use Rattle.drop_shadow.specs.Outcome.{either_short}
use Rattle.recipe_checks.specs.declared.Step.{Step}
use Rattle.recipe_checks.specs.Own.{Chained, own_number, frame_checks, found}
use Rattle.recipe_checks.specs.Single.{single_call, worked}
use Rattle.recipes.specs.Chain.{first_bad, chain_found, all_ran, chained, chain_answer, chain_outcome}
use Rattle.recipes.proofs.Found.{head_good}
use Rattle.recipes.proofs.OneCall.{Framed, Left, calls, worked_length}

-- 1 to 3 let through
pub framed_of : (w h p s c : ℕ) → first_of (frame_checks p w h s c) ≡ 0 → Framed w h p s c
unfolding either_short
framed_of w h p s c e =
    let one = passed _ _ (lit< tt) (sym e) in
    let two = passed _ _ (lit< tt) one.1 in
    let three = passed _ _ (lit< tt) two.1 in
    let room = neither (too_short s w h) (too_short c w h) three.0 in
    record { sides = one.0; exact = two.0; scratch_room = room.0; copy_room = room.1 }

-- a good recipe's single call: done, and what it leaves is let through by 1 to 3 again
pub record Stepped (table : List Float) (w h : ℕ) (step : Step) (p s c : List ℕ) (l : LentCopy) : Type 0 where
  pub done : (single_call table w h step (lent_copy p s c)).number ≡ 0
  pub left : Left w h (worked table w h step p) s c l
  pub framed : Framed w h (length l.picture) (length l.scratch) (length l.copy)

pub stepped : (table : List Float) (w h : ℕ) (step : Step) (p s c : List ℕ) → own_number table step ≡ 0 → Framed w h (length p) (length s) (length c) →
    Stepped table w h step p s c (single_call table w h step (lent_copy p s c)).left
stepped table w h step p s c good framed =
    let called = calls table w h step p s c framed good in
    let one = called.1 in
    let exact = (whole p w h framed.sides framed.exact).exact in
    let long : length (single_call table w h step (lent_copy p s c)).left.picture ≡ length p = ap length one.picture_is ∙ worked_length table w h step p exact ∙ sym exact in
    record { done = called.0; left = one; framed = rw (long, one.scratch_long, one.copy_long) framed }

-- a chain in which no recipe is bad: the picture of the recipes in order, and the same bytes past 4wh
pub all_done : (table : List Float) (w h i : ℕ) (steps : List Step) (p s c : List ℕ) → (first_bad table i steps).number ≡ 0 → Framed w h (length p) (length s) (length c) →
    Left w h (chained table w h steps p) s c (all_ran table w h steps (lent_copy p s c))
unfolding all_ran chained
all_done table w h i [] p s c none framed = record { picture_is = refl; scratch_is = refl; scratch_long = refl; copy_is = refl; copy_long = refl }
all_done table w h i (step ∷ steps) p s c none framed =
    let good = head_good table i step steps none in
    let l = (single_call table w h step (lent_copy p s c)).left in
    let one = stepped table w h step p s c good.0 framed in
    let rest = all_done table w h (suc i) steps l.picture l.scratch l.copy good.1 one.framed in
    record {
      picture_is = rest.picture_is ∙ ap (chained table w h steps) one.left.picture_is;
      scratch_is = rest.scratch_is ∙ one.left.scratch_is;
      scratch_long = rest.scratch_long ∙ one.left.scratch_long;
      copy_is = rest.copy_is ∙ one.left.copy_is;
      copy_long = rest.copy_long ∙ one.left.copy_long;
    }

module _ (p : List ℕ) (w h : ℕ) (s c : List ℕ) (steps : List Step) (table : List Float) where
  abbrev frame : ℕ
  frame = first_of (frame_checks (length p) w h (length s) (length c))

  abbrev fd : Chained
  fd = chain_found (length p) w h (length s) (length c) steps table

  -- refused by 1 to 3, or else by a recipe's own
  by_frame : (n : ℕ) → (n ≡ 0 → ⊥) → n ≡ frame → found n 0 ≡ fd
  unfolding chain_found
  by_frame n f e = rw (ne_eqb frame 0 (λ z. f (e ∙ z))) (ap (λ (k : ℕ). found k 0) e)

  pub of_list : frame ≡ 0 → fd ≡ first_bad table 0 steps
  unfolding chain_found
  of_list z = rw (eq-eqb frame 0 z)

  refused : (d : Chained) → (d.number ≡ 0 → ⊥) → d ≡ fd → chain_answer d (lent_copy p s c) ≡ chain_outcome p w h s c steps table
  unfolding chain_outcome settled
  refused d f e = rw (sym e, ne_eqb d.number 0 f)

  pub refused_frame : (n : ℕ) → (n ≡ 0 → ⊥) → n ≡ frame → chain_answer (found n 0) (lent_copy p s c) ≡ chain_outcome p w h s c steps table
  refused_frame n f e = refused (found n 0) f (by_frame n f e)

  pub refused_step : (d : Chained) → (d.number ≡ 0 → ⊥) → frame ≡ 0 → d ≡ first_bad table 0 steps → chain_answer d (lent_copy p s c) ≡ chain_outcome p w h s c steps table
  refused_step d f z e = refused d f (e ∙ sym (of_list z))

  -- nothing was refused
  pub comes_to : frame ≡ 0 → found 0 0 ≡ first_bad table 0 steps → (zp zs zc : List ℕ) → lent_copy zp zs zc ≡ all_ran table w h steps (lent_copy p s c) →
      chain_answer (found 0 0) (lent_copy zp (cleared (bytes_of w h) zs) (cleared (bytes_of w h) zc)) ≡ chain_outcome p w h s c steps table
  unfolding chain_outcome settled
  comes_to z none zp zs zc l =
      let nothing : fd ≡ found 0 0 = of_list z ∙ sym none in
      let left = all_done table w h 0 steps p s c (ap (λ (d : Chained). d.number) (sym none)) (framed_of w h (length p) (length s) (length c) z) in
      rw (
        nothing,
        ap (λ (d : LentCopy). d.picture) l ∙ left.picture_is,
        ap (λ (d : LentCopy). cleared (bytes_of w h) d.scratch) l ∙ left.scratch_is,
        ap (λ (d : LentCopy). cleared (bytes_of w h) d.copy) l ∙ left.copy_is,
      )
