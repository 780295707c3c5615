-- Laws of what a lookup answers in each case of its checks; a looked-up stretch lies within the file, and a unit has a name.
use mathlib.Core.Path.{◌≡◌, refl, ◌∙◌, sym, subst}
use mathlib.Core.Bool.{Bool, true, false}
use mathlib.Core.List.{List}
use Prim.Native.Nat.{ℕ, ◌+◌, ◌≤◌, ◌<◌}
use native.Mathlib.Omega.{arith}
use lib.Dec.{leb, eqb, ltb}
use lib.ListN.{length}
use borrow.Author.Tests.{leb-false, lt-leb, ltb-false}
use Rattle.picture.specs.Answer.{Answer, answered, settled}
use Rattle.picture.specs.Refusal.{first_else, first_of, zero_or_above}
use Rattle.picture.proofs.Answers.{refused, done}
use Rattle.picture.proofs.Tests.{neither}
use Rattle.plate_numbers.specs.Numbers.{version, count, labelled, wrong_unit}
use Rattle.plate_format.specs.Format.{label_at, entry_of, is_plate}
use Rattle.plate_format.proofs.Rules.{Obeyed, plate_entry}
use Rattle.plate.specs.Lookup.{Picture, nothing, picture_of, lookup_checks, looked_up_to, looked_up}

-- a unit that the rules let through, and one that is not there
pub named : (v unit : ℕ) → labelled v ≡ true → wrong_unit v unit ≡ false → unit ≤ 2
unfolding wrong_unit zero_or_above
named v unit t e = ltb-false 2 unit (neither (eqb unit 0) (ltb 2 unit) (rw t at e)).1

unnamed : (file : List ℕ) (i : ℕ) → labelled (version file) ≡ false → (entry_of file i).unit ≡ 0
unfolding entry_of label_at
unnamed file i t = rw t

module _ (file : List ℕ) (index : ℕ) where
  -- the first check that refuses, if one does
  pub broken : is_plate file ≡ false → 10 ≡ first_of (lookup_checks file index)
  unfolding first_of first_else
  broken p = rw p

  pub missing : is_plate file ≡ true → leb (count file) index ≡ true → 12 ≡ first_of (lookup_checks file index)
  unfolding first_of first_else
  missing p n = rw (p, n)

  passes : is_plate file ≡ true → leb (count file) index ≡ false → 0 ≡ first_of (lookup_checks file index)
  unfolding first_of first_else
  passes p n = rw (p, n)

  module _ {A : Type 0} (before after : A) where
    pub unlisted : (n : ℕ) → (n ≡ 0 → ⊥) → n ≡ first_of (lookup_checks file index) → answered n before ≡ settled (first_of (lookup_checks file index)) before after
    unlisted n some e = rw e (refused (first_of (lookup_checks file index)) before after (λ z. some (e ∙ z)))

    pub listed : is_plate file ≡ true → index < count file → answered 0 after ≡ settled (first_of (lookup_checks file index)) before after
    listed p l = done (first_of (lookup_checks file index)) before after (sym (passes p (lt-leb (count file) index l)))

  pub there : is_plate file ≡ true → index < count file → answered 0 (picture_of file index) ≡ looked_up file index
  unfolding looked_up_to
  there p l = listed nothing (picture_of file index) p l

  -- what holds of every refusal, and of a picture that is there, holds of the answer
  pub by_case : (P : Answer Picture → Type 0) → ((n : ℕ) → P (answered n nothing)) → (Obeyed file index → P (answered 0 (picture_of file index))) → P (looked_up file index)
  unfolding looked_up_to
  by_case P some found = by_plate (is_plate file) refl
    where
      by_index : (p : is_plate file ≡ true) (b : Bool) → leb (count file) index ≡ b → P (looked_up file index)
      by_index p true n = subst P (unlisted nothing (picture_of file index) 12 (λ e. omega arith) (missing p n)) (some 12)
      by_index p false n = subst P (there p (leb-false _ _ n)) (found (plate_entry file p index (leb-false _ _ n)))

      by_plate : (b : Bool) → is_plate file ≡ b → P (looked_up file index)
      by_plate false p = subst P (unlisted nothing (picture_of file index) 10 (λ e. omega arith) (broken p)) (some 10)
      by_plate true p = by_index p (leb (count file) index) refl

  -- the answered stretch lies within the file
  pub stretch_inside : (looked_up file index).left.offset + (looked_up file index).left.length ≤ length file
  stretch_inside = by_case (λ a. a.left.offset + a.left.length ≤ length file) (λ n. omega arith) (λ o. o.ends)

  -- the unit of a plate's entry is 0, 1 or 2
  pub unit_named : is_plate file ≡ true → index < count file → (entry_of file index).unit ≤ 2
  unit_named p l = by (labelled (version file)) refl
    where
      by : (b : Bool) → labelled (version file) ≡ b → (entry_of file index).unit ≤ 2
      by true t = named (version file) (entry_of file index).unit t (plate_entry file p index l).named
      by false t = omega (arith, unnamed file index t)
