-- Version 1 ignores a given unit and sheet: of two calls that differ in nothing else the outcomes are one.
use mathlib.Core.Path.{◌≡◌, ◌∙◌, sym}
use mathlib.Core.List.{List}
use Prim.Native.Nat.{ℕ}
use contract.Lifetimes.{Lfts}
use borrow.Fn.Kinds.{Dens, ended_of}
use denote.Triple.Clauses.{AtExit}
use Rattle.std.proofs.Common.{Result}
use Rattle.picture.specs.declared.checks.Refusal.{Refusal}
use Rattle.plate_numbers.specs.Numbers.{version, labelled, wrong_unit}
use Rattle.plate.specs.Lookup.{Beside, beside}
use Rattle.plate_room.specs.Room.{given, in_use, no_plate}
use Rattle.plate_write.specs.Added.{added}
use Rattle.plate_empty.specs.Outcome.{grows}
use Rattle.plate_write.specs.Outcome.{add_outcome}
use Rattle.plate_write.proofs.plate_add.Reads as add
use Rattle.plate_write.proofs.plate_add.Kinds as kinds

ignored : (buffer : List ℕ) (used : ℕ) (picture : List ℕ) (w h : ℕ) (a b : Beside) → version (in_use buffer used) ≡ 1 →
    add_outcome buffer used picture w h a ≡ add_outcome buffer used picture w h b
unfolding add_outcome no_plate wrong_unit labelled added given
ignored buffer used picture w h a b one = rw one

pub version_1_ignores : (κs : Lfts 2) (a b : Dens κs kinds.ps) (r₁ r₂ : Result ℕ Refusal) (x₁ x₂ : AtExit (ended_of 2 kinds.ps kinds.r) κs) → add.Post κs a r₁ x₁ → add.Post κs b r₂ x₂ →
    a.0.now ≡ b.0.now → a.1.0 ≡ b.1.0 → a.1.1.0.now ≡ b.1.1.0.now → a.1.1.1.0 ≡ b.1.1.1.0 → a.1.1.1.1.0 ≡ b.1.1.1.1.0 →
    version (in_use a.0.now a.1.0) ≡ 1 → grows r₁ x₁.0.now ≡ grows r₂ x₂.0.now
version_1_ignores κs a b r₁ r₂ x₁ x₂ h₁ h₂ buffer used picture w h one =
    h₁ ∙ ignored _ _ _ _ _ _ (beside b.1.1.1.1.1.0 b.1.1.1.1.1.1.0) one ∙ rw (buffer, used, picture, w, h) (sym h₂)
