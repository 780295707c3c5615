-- Whatever the contracts of a lookup allow of one call is one answer, and one part of the file.
use mathlib.Core.Path.{◌≡◌, refl, ◌∙◌, sym}
use mathlib.Core.Bool.{cond}
use mathlib.Core.List.{List}
use Prim.Native.Nat.{ℕ}
use lib.Dec.{eqb}
use contract.Lifetimes.{Lfts}
use borrow.Fn.Kinds.{Dens, ended_of}
use denote.Triple.Clauses.{AtExit}
use denote.Ref.{Bor}
use Rattle.picture.specs.Answer.{Answer}
use Rattle.picture.specs.Sizes.{full_size}
use Rattle.picture.specs.Slice.{slice_part}
use Rattle.picture.proofs.Answers.{undone}
use Rattle.std.proofs.Common.{Result, Ok, Err}
use Rattle.picture.specs.declared.checks.Refusal.{Refusal}
use Rattle.picture.proofs.Refused.{answer_of, answer_undone}
use Rattle.plate.specs.Lookup.{Picture, answers, Beside, unit_number, labels}
use Rattle.plate.specs.declared.Unit.{Unit}
use Rattle.plate.specs.declared.Unit.TheVariants.{Unnamed, Milliohm, Microohm}
use Rattle.plate.specs.declared.Label.{Label}
use Rattle.plate.specs.declared.Found.{Found}
use Rattle.plate.proofs.find_picture.Reads as find
use Rattle.plate.proofs.find_picture.Kinds as find-kinds
use Rattle.plate.proofs.find_label.Reads as label
use Rattle.plate.proofs.find_label.Kinds as label-kinds
use Rattle.plate.proofs.plate_picture.Reads as part
use Rattle.plate.proofs.plate_picture.Kinds as part-kinds

-- the answer that has this number and these values
abbrev back : Answer Picture → Result Found Refusal
back a = answer_of a.number (record { size = full_size a.left.width a.left.height; stretch = record { offset = a.left.offset; length = a.left.length } })

back_is : (a : Result Found Refusal) → back (answers a) ≡ a
unfolding answer_of
back_is (Err r) = answer_undone r _
back_is (Ok found) = refl

-- no two answers have the same number and values
pub answers_once : (a b : Result Found Refusal) → answers a ≡ answers b → a ≡ b
answers_once = undone answers back back_is

pub find_determined : (κs : Lfts 1) (a : Dens κs find-kinds.ps) (r₁ r₂ : Result Found Refusal) (x₁ x₂ : AtExit (ended_of 1 find-kinds.ps find-kinds.r) κs) →
    find.Post κs a r₁ x₁ → find.Post κs a r₂ x₂ → r₁ ≡ r₂
find_determined κs a r₁ r₂ x₁ x₂ h₁ h₂ = answers_once r₁ r₂ (h₁ ∙ sym h₂)

-- the same of a label
abbrev unit_of : ℕ → Unit
unit_of number = cond (eqb number 1) Milliohm (cond (eqb number 2) Microohm Unnamed)

abbrev label_back : Answer Beside → Result Label Refusal
label_back a = answer_of a.number (record { unit = unit_of a.left.unit; sheet = a.left.sheet })

unit_back : (u : Unit) → unit_of (unit_number u) ≡ u
unit_back Unnamed = refl
unit_back Milliohm = refl
unit_back Microohm = refl

label_back_is : (a : Result Label Refusal) → label_back (labels a) ≡ a
unfolding answer_of
label_back_is (Err r) = answer_undone r _
label_back_is (Ok l) = rw (unit_back l.unit)

pub labels_once : (a b : Result Label Refusal) → labels a ≡ labels b → a ≡ b
labels_once = undone labels label_back label_back_is

pub label_determined : (κs : Lfts 1) (a : Dens κs label-kinds.ps) (r₁ r₂ : Result Label Refusal) (x₁ x₂ : AtExit (ended_of 1 label-kinds.ps label-kinds.r) κs) →
    label.Post κs a r₁ x₁ → label.Post κs a r₂ x₂ → r₁ ≡ r₂
label_determined κs a r₁ r₂ x₁ x₂ h₁ h₂ = labels_once r₁ r₂ (h₁ ∙ sym h₂)

pub part_determined : (κs : Lfts 1) (a : Dens κs part-kinds.ps) (r₁ r₂ : Bor (List ℕ)) (x₁ x₂ : AtExit (ended_of 1 part-kinds.ps part-kinds.r) κs) →
    part.Post κs a r₁ x₁ → part.Post κs a r₂ x₂ → slice_part r₁ ≡ slice_part r₂
part_determined κs a r₁ r₂ x₁ x₂ h₁ h₂ = h₁ ∙ sym h₂
