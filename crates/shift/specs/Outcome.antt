-- What the entry `shift` answers and leaves behind, for any input.
use Rattle.std.specs.Prelude.{◌≡◌, Bool, false, not, ◌||◌, List, [], ◌∷◌, ◌++◌, ℕ, ◌*◌, length, Float}
use Rattle.picture.specs.Sizes.{FullSized, Pictured}
use Rattle.picture.specs.declared.FullSize.{FullSize}
use Rattle.picture.specs.Refusal.{Check, check, first_of, picture_checks}
use Rattle.picture.specs.Answer.{Answer, settled}
use Rattle.binary32.specs.Ranges.{finite}
use Rattle.binary32.specs.Round.{whole_offset}
use Rattle.shift.specs.Shift.{shifted_picture}

-- 7, of two offsets: one is NaN or infinite
unfoldable pub wrong_offsets : Float → Float → Bool
wrong_offsets dx dy = not (finite dx) || not (finite dy)

-- what the work needs: a whole picture, and finite offsets
pub record ShiftReady (size : FullSize) (picture : List ℕ) (dx dy : Float) : Type 0 where
  pub pictured : Pictured size.w size.h picture
  pub offsets : wrong_offsets dx dy ≡ false

-- the same of h rows of w elements of so many bytes
pub record ElementsReady (lanes : ℕ) (size : FullSize) (bytes : List ℕ) (dx dy : Float) : Type 0 where
  pub sized : FullSized size
  pub exact : length bytes ≡ size.h * (lanes * size.w)
  pub offsets : wrong_offsets dx dy ≡ false

-- Shift: 1, 2, 7; of the picture's length
abbrev pub shift_checks : ℕ → ℕ → ℕ → Float → Float → List Check
shift_checks picture w h dx dy = picture_checks picture w h ++ (check 7 (wrong_offsets dx dy) ∷ [])

-- the first refusal; or the picture moved by the offsets, each rounded to the nearest whole number, halves away from zero
unfoldable pub shift_outcome : List ℕ → ℕ → ℕ → Float → Float → Answer (List ℕ)
shift_outcome p w h dx dy =
    settled (first_of (shift_checks (length p) w h dx dy)) p (shifted_picture (whole_offset dx) (whole_offset dy) w h p)
