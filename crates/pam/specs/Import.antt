-- Reading a PAM file into a picture.
use Rattle.std.specs.Prelude.{not, List, [], ◌∷◌, ℕ, length, drop, Result, Ok, Err}
use Rattle.picture.specs.Answer.{Answer, answered, settled}
use Rattle.picture.specs.Planes.{bytes_of, laid}
use Rattle.picture.specs.Refusal.{Check, check, first_of, too_short, number}
use Rattle.pam_format.specs.Header.{header}
use Rattle.pam_format.specs.Format.{width_in, height_in, is_pam}
use Rattle.pam_convert.specs.Straight.{imported}
use Rattle.picture.specs.declared.checks.Refusal.{Refusal}
use Rattle.picture.specs.declared.FullSize.{FullSize}

-- the values beside the number, and the lent picture: sides, and how many bytes were written
pub record PictureRead : Type 0 where
  pub width : ℕ
  pub height : ℕ
  pub written : ℕ
  pub picture : List ℕ

abbrev pub picture_read : ℕ → ℕ → List ℕ → PictureRead
picture_read w h picture = record { width = w; height = h; written = bytes_of w h; picture = picture }

-- refused: 0 by 0, no byte written, the picture as it was
abbrev pub nothing_read : List ℕ → PictureRead
nothing_read picture = picture_read 0 0 picture

-- Import: 15, then 3
abbrev pub import_checks : List ℕ → ℕ → List Check
import_checks file room = check 15 (not (is_pam file)) ∷ check 3 (too_short room (width_in file) (height_in file)) ∷ []

-- a PAM file of w by h pixels without its header
abbrev pub pixels_in : List ℕ → ℕ → ℕ → List ℕ
pixels_in file w h = drop (length (header w h)) file

-- the first refusal, or the file's picture in front of what the lent bytes have past it
unfoldable pub import_outcome : List ℕ → List ℕ → Answer PictureRead
import_outcome file picture =
    settled (first_of (import_checks file (length picture))) (nothing_read picture)
    (picture_read (width_in file) (height_in file) (laid (imported (width_in file) (height_in file) (pixels_in file (width_in file) (height_in file))) picture))

-- the number and the values of each answer, with the lent picture
abbrev pub import_answer : Result FullSize Refusal → List ℕ → Answer PictureRead
import_answer (Err r) picture = answered (number r) (nothing_read picture)
import_answer (Ok size) picture = answered 0 (picture_read size.w size.h picture)
