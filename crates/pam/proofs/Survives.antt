-- A picture that the check passes goes out into a file and in again unchanged, sides and bytes; and what was read passes the check.
use mathlib.Core.Path.{◌≡◌, refl, sym, ap, ap₂, subst, ◌∙◌}
use mathlib.Core.List.{List}
use Prim.Native.Nat.{ℕ, ◌+◌, ◌≤◌}
use lib.ListN.{length, take, drop, length-append}
use lib.Seq.{take_at, drop-append_seam, get_or-drop}
use borrow.Author.Tests.{le-ltb}
use contract.Lifetimes.{Lfts}
use borrow.Fn.Kinds.{Dens, ended_of}
use denote.Triple.Clauses.{AtExit}
use Rattle.std.proofs.Common.{Result, Ok}
use Rattle.picture.specs.declared.checks.Refusal.{Refusal}
use Rattle.picture.specs.Answer.{answered, settled}
use Rattle.picture.specs.Planes.{bytes_of, laid}
use Rattle.picture.specs.Refusal.{first_else, first_of, too_short}
use Rattle.picture.specs.Sizes.{full_size}
use Rattle.picture.specs.declared.FullSize.{FullSize}
use Rattle.picture.proofs.Conditions.{long_enough, right_length}
use Rattle.pixels.specs.Channels.{premultiply}
use Rattle.grading.specs.Premultiplied.{none, checked}
use Rattle.pam_format.specs.Header.{header}
use Rattle.pam_format.specs.Format.{width_in, height_in, file_length, Pam}
use Rattle.pam_format.proofs.Files.{pam_is}
use Rattle.unmultiply.specs.Outward.{outward}
use Rattle.pam_convert.specs.Straight.{imported, exported}
use Rattle.pam.specs.Needs.{Passed}
use Rattle.pam.specs.Import.{pixels_in, import_outcome, import_answer}
use Rattle.pam.specs.Export.{file_of}
use Rattle.pam.specs.declared.writing.Unwritten.{Unwritten}
use Rattle.pam.proofs.Taken.{was_read}
use Rattle.pam_convert.proofs.Channels.{Bytes, there_and_back, passes_inward}
use Rattle.pam.proofs.Determined.{import_once, export_once}
use Rattle.pam.proofs.Exports.{past_both, written}
use Rattle.pam.proofs.Imports.{read_in_lem}
use Rattle.pam_convert.proofs.Recolouring.{length_recoloured}
use Rattle.pam.proofs.reading.pam_read.Reads as read
use Rattle.pam.proofs.reading.pam_read.Kinds as read-kinds
use Rattle.pam.proofs.writing.pam_write.Reads as write
use Rattle.pam.proofs.writing.pam_write.Kinds as write-kinds

-- the file of a picture is a PAM file of its sides, and its body is the picture outward
module _ (w h : ℕ) (picture : List ℕ) where
  long : length (file_of w h picture) ≡ file_length w h
  long = length-append (header w h) (exported w h picture) ∙ ap (λ (n : ℕ). length (header w h) + n) (length_recoloured outward w h picture)

  module _ (t : Passed picture w h none) where
    is_pam_lem : Pam (file_of w h picture) w h
    is_pam_lem = record { sides = t.sides; body = exported w h picture; exact = length_recoloured outward w h picture; spelt = refl }

    -- what reading it comes to
    read_back : (p : List ℕ) → Bytes picture → bytes_of w h ≤ length p → import_answer (Ok (full_size w h)) (laid picture p) ≡ import_outcome (file_of w h picture) p
    read_back p bytes room =
        let f = file_of w h picture in
        let told = (pam_is f).1 w h is_pam_lem in
        let w-is = told.1 in
        let h-is = told.2 in
        let body : pixels_in f w h ≡ exported w h picture = drop-append_seam (header w h) (exported w h picture) in
        let same : imported (width_in f) (height_in f) (pixels_in f (width_in f) (height_in f)) ≡ picture =
        ap₂ (λ (x y : ℕ). imported x y (pixels_in f x y)) w-is h-is ∙ ap (imported w h) body ∙ there_and_back w h picture bytes ((right_length (length picture) w h).0 t.exact) t.scan in
        ap₂ (λ (x y : ℕ). import_answer (Ok (full_size x y)) (laid picture p)) (sym w-is) (sym h-is)
        ∙ read_in_lem f p told.0 (ap₂ (too_short (length p)) w-is h-is ∙ (long_enough (length p) w h).1 room) (laid picture p) (ap (λ (q : List ℕ). laid q p) (sym same))

-- the stretch of the lent file that was written
front : (new old : List ℕ) (n : ℕ) → length new ≡ n → take n (laid new old) ≡ new
unfolding laid
front new old n e = take_at new (drop (length new) old) n e

-- out and in again: the file's stretch that was written, read into any picture with room
pub survives : (κs₁ : Lfts 2) (a₁ : Dens κs₁ write-kinds.ps) (r₁ : Result ℕ Unwritten) (x₁ : AtExit (ended_of 2 write-kinds.ps write-kinds.r) κs₁) →
    (κs₂ : Lfts 2) (a₂ : Dens κs₂ read-kinds.ps) (r₂ : Result FullSize Refusal) (x₂ : AtExit (ended_of 2 read-kinds.ps read-kinds.r) κs₂) →
    write.Post κs₁ a₁ r₁ x₁ → read.Post κs₂ a₂ r₂ x₂ →
    let picture = a₁.0.now in
    let w = a₁.1.0 in
    let h = a₁.1.1.0 in
    Bytes picture → answered 0 none ≡ checked picture w h → file_length w h ≤ length a₁.1.1.1.0.now →
    a₂.0.now ≡ take (file_length w h) x₁.1.1.1.0.now → bytes_of w h ≤ length a₂.1.0.now →
    (r₁ ≡ Ok (file_length w h)) × (r₂ ≡ Ok (full_size w h)) × (x₂.1.0.now ≡ laid picture a₂.1.0.now)
survives κs₁ a₁ r₁ x₁ κs₂ a₂ r₂ x₂ h₁ h₂ bytes check room lent enough =
    let picture = a₁.0.now in
    let w = a₁.1.0 in
    let h = a₁.1.1.0 in
    let file = a₁.1.1.1.0.now in
    let t = past_both picture w h none check in
    let out = export_once (h₁ ∙ sym (written picture w h file t (le-ltb (length file) (file_length w h) room) (laid (file_of w h picture) file) refl)) in
    let stretch : a₂.0.now ≡ file_of w h picture =
    lent ∙ ap (take (file_length w h)) out.1 ∙ front (file_of w h picture) file (file_length w h) (long w h picture) in
    let back = import_once (h₂ ∙ ap (λ (f : List ℕ). import_outcome f a₂.1.0.now) stretch ∙ sym (read_back w h picture t a₂.1.0.now bytes enough)) in
    (out.0, back.0, back.1)

-- what was read passes the check
pub read_passes : (κs : Lfts 2) (a : Dens κs read-kinds.ps) (r : Result FullSize Refusal) (x : AtExit (ended_of 2 read-kinds.ps read-kinds.r) κs) → read.Post κs a r x →
    (size : FullSize) → r ≡ Ok size → Bytes a.0.now → checked (take (bytes_of size.w size.h) x.1.0.now) size.w size.h ≡ answered 0 none
unfolding checked settled first_of first_else
read_passes κs a r x e size is bytes =
    let file = a.0.now in
    let w = size.w in
    let h = size.h in
    let t = was_read file a.1.0.now size x.1.0.now (ap (λ (r : Result FullSize Refusal). import_answer r x.1.0.now) (sym is) ∙ e) in
    let body = pixels_in file w h in
    let exact = length_recoloured premultiply w h body in
    let read : take (bytes_of w h) x.1.0.now ≡ imported w h body = ap (take (bytes_of w h)) t.left ∙ front (imported w h body) a.1.0.now (bytes_of w h) exact in
    rw (read, t.pam.sides, (right_length (length (imported w h body)) w h).1 exact, passes_inward w h body (λ i. subst (λ (b : ℕ). b ≤ 255) (sym (get_or-drop (length (header w h)) file i 0)) (bytes (length (header w h) + i))))
