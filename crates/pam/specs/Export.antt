-- Writing a picture as a PAM file.
use Rattle.std.specs.Prelude.{cond, List, [], ◌∷◌, ◌++◌, ℕ, ltb, eqb, length, Result, Ok, Err}
use Rattle.picture.specs.Answer.{Answer, answered, settled}
use Rattle.picture.specs.Planes.{laid}
use Rattle.picture.specs.Refusal.{Check, check, first_of, picture_checks, number}
use Rattle.grading.specs.Premultiplied.{scanned}
use Rattle.pam_format.specs.Header.{header}
use Rattle.pam_format.specs.Format.{file_length}
use Rattle.pam_convert.specs.Straight.{exported}
use Rattle.picture.specs.declared.checks.Refusal.{Refusal}
use Rattle.pam.specs.declared.writing.Unwritten.{Unwritten}

-- the values beside the number, and the lent file: how many bytes were written, and the first place of which a channel exceeds alpha
pub record FileLeft : Type 0 where
  pub written : ℕ
  pub place : ℕ
  pub file : List ℕ

abbrev pub file_left : ℕ → ℕ → List ℕ → FileLeft
file_left written place file = record { written = written; place = place; file = file }

-- Export: 1, 2, 16, then 3
abbrev pub export_checks : List ℕ → ℕ → ℕ → ℕ → List Check
export_checks picture w h room = picture_checks (length picture) w h ++ check 16 (scanned picture w h).found ∷ check 3 (ltb room (file_length w h)) ∷ []

-- the number that they give
unfoldable pub export_refusal : List ℕ → ℕ → ℕ → ℕ → ℕ
export_refusal picture w h room = first_of (export_checks picture w h room)

-- refused: no byte written, and the file as it was; the place is the first such place on 16, and else 0
abbrev pub nothing_written : ℕ → List ℕ → ℕ → ℕ → List ℕ → FileLeft
nothing_written refusal picture w h file = file_left 0 (cond (eqb refusal 16) (scanned picture w h).place 0) file

-- the file of a picture: its header, and its pixels outward
abbrev pub file_of : ℕ → ℕ → List ℕ → List ℕ
file_of w h picture = header w h ++ exported w h picture

-- the first refusal, or the picture's file in front of what the lent bytes have past it
unfoldable pub export_outcome : List ℕ → ℕ → ℕ → List ℕ → Answer FileLeft
export_outcome picture w h file =
    settled (export_refusal picture w h (length file)) (nothing_written (export_refusal picture w h (length file)) picture w h file)
    (file_left (file_length w h) 0 (laid (file_of w h picture) file))

-- a refusal with a place
abbrev pub refused_at : Refusal → ℕ → Unwritten
refused_at r place = record { refusal = r; place = record { at = place } }

-- the number and the values of each answer, with the lent file
abbrev pub export_answer : Result ℕ Unwritten → List ℕ → Answer FileLeft
export_answer (Err u) file = answered (number u.refusal) (file_left 0 u.place.at file)
export_answer (Ok n) file = answered 0 (file_left n 0 file)
