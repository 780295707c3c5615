-- Whatever the contracts of the two entries allow of one call is one answer, and one content of the lent bytes.
use mathlib.Core.Path.{◌≡◌, refl, ◌∙◌, sym, ap, ap₂}
use mathlib.Core.List.{List}
use Prim.Native.Nat.{ℕ}
use native.Mathlib.Omega.{arith}
use contract.Lifetimes.{Lfts}
use borrow.Fn.Kinds.{Dens, ended_of}
use denote.Triple.Clauses.{AtExit}
use Rattle.picture.specs.Answer.{Answer}
use Rattle.picture.specs.Refusal.{number}
use Rattle.picture.specs.Sizes.{full_size}
use Rattle.std.proofs.Common.{Result, Ok, Err}
use Rattle.picture.specs.declared.FullSize.{FullSize}
use Rattle.picture.specs.declared.checks.Refusal.{Refusal}
use Rattle.picture.proofs.Refused.{number_some, number_once, answer_of, answer_undone}
use Rattle.pam.specs.Import.{PictureRead, import_answer}
use Rattle.pam.specs.Export.{FileLeft, refused_at, export_answer}
use Rattle.pam.specs.declared.writing.Unwritten.{Unwritten}
use Rattle.pam.proofs.reading.pam_read.Reads as read
use Rattle.pam.proofs.reading.pam_read.Kinds as read-kinds
use Rattle.pam.proofs.writing.pam_write.Reads as write
use Rattle.pam.proofs.writing.pam_write.Kinds as write-kinds

-- the answers that have these numbers and values
abbrev import_back : Answer PictureRead → Result FullSize Refusal
import_back a = answer_of a.number (full_size a.left.width a.left.height)

import_back_is : (a : Result FullSize Refusal) (picture : List ℕ) → import_back (import_answer a picture) ≡ a
unfolding answer_of
import_back_is (Err r) picture = answer_undone r _
import_back_is (Ok size) picture = refl

export_is : (a b : Result ℕ Unwritten) (p q : List ℕ) → export_answer a p ≡ export_answer b q → a ≡ b
export_is (Err u) (Err v) p q e =
    ap₂ (λ (r : Refusal) (k : ℕ). Err (refused_at r k)) (number_once u.refusal v.refusal (ap (λ (o : Answer FileLeft). o.number) e)) (ap (λ (o : Answer FileLeft). o.left.place) e)
export_is (Err u) (Ok m) p q e = let z : number u.refusal ≡ 0 = ap (λ (o : Answer FileLeft). o.number) e in absurd (omega (arith, number_some u.refusal))
export_is (Ok n) (Err v) p q e = let z : 0 ≡ number v.refusal = ap (λ (o : Answer FileLeft). o.number) e in absurd (omega (arith, number_some v.refusal))
export_is (Ok n) (Ok m) p q e = ap (λ (k : ℕ). Ok k) (ap (λ (o : Answer FileLeft). o.left.written) e)

left_picture : (a : Result FullSize Refusal) (picture : List ℕ) → (import_answer a picture).left.picture ≡ picture
left_picture (Err r) picture = refl
left_picture (Ok size) picture = refl

left_file : (a : Result ℕ Unwritten) (file : List ℕ) → (export_answer a file).left.file ≡ file
left_file (Err u) file = refl
left_file (Ok n) file = refl

-- no two answers with the bytes left have the same number and values
pub import_once : {a b : Result FullSize Refusal} {p q : List ℕ} → import_answer a p ≡ import_answer b q → (a ≡ b) × (p ≡ q)
import_once {a} {b} {p} {q} e =
    (sym (import_back_is a p) ∙ ap import_back e ∙ import_back_is b q, sym (left_picture a p) ∙ ap (λ (o : Answer PictureRead). o.left.picture) e ∙ left_picture b q)

pub export_once : {a b : Result ℕ Unwritten} {p q : List ℕ} → export_answer a p ≡ export_answer b q → (a ≡ b) × (p ≡ q)
export_once {a} {b} {p} {q} e =
    (export_is a b p q e, sym (left_file a p) ∙ ap (λ (o : Answer FileLeft). o.left.file) e ∙ left_file b q)

pub read_determined : (κs : Lfts 2) (a : Dens κs read-kinds.ps) (r₁ r₂ : Result FullSize Refusal) (x₁ x₂ : AtExit (ended_of 2 read-kinds.ps read-kinds.r) κs) →
    read.Post κs a r₁ x₁ → read.Post κs a r₂ x₂ → (r₁ ≡ r₂) × (x₁.1.0.now ≡ x₂.1.0.now)
read_determined κs a r₁ r₂ x₁ x₂ h₁ h₂ = import_once (h₁ ∙ sym h₂)

pub write_determined : (κs : Lfts 2) (a : Dens κs write-kinds.ps) (r₁ r₂ : Result ℕ Unwritten) (x₁ x₂ : AtExit (ended_of 2 write-kinds.ps write-kinds.r) κs) →
    write.Post κs a r₁ x₁ → write.Post κs a r₂ x₂ → (r₁ ≡ r₂) × (x₁.1.1.1.0.now ≡ x₂.1.1.1.0.now)
write_determined κs a r₁ r₂ x₁ x₂ h₁ h₂ = export_once (h₁ ∙ sym h₂)
