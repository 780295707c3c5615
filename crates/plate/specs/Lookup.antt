-- Picture of a plate: its number, its sides, which stretch of the caller's own file it is, and its unit and sheet.
use Rattle.std.specs.Prelude.{◌≡◌, true, not, List, [], ◌∷◌, ℕ, ◌+◌, ◌<◌, leb, take, drop, Result, Ok, Err}
use Rattle.std.specs.Borrow.{Bor}
use Rattle.picture.specs.Answer.{Answer, answered, settled}
use Rattle.picture.specs.Refusal.{Check, check, first_of, number}
use Rattle.picture.specs.Slice.{SlicePart}
use Rattle.plate_numbers.specs.Numbers.{count, newest}
use Rattle.plate_format.specs.Format.{entry_of, body_offset, is_plate_to, is_plate}
use Rattle.picture.specs.declared.checks.Refusal.{Refusal}
use Rattle.plate_format.specs.declared.Entry.{Entry}
use Rattle.plate.specs.declared.Unit.{Unit}
use Rattle.plate.specs.declared.Unit.TheVariants.{Unnamed, Milliohm, Microohm}
use Rattle.plate.specs.declared.Label.{Label}
use Rattle.plate.specs.declared.Found.{Found}

-- the values beside the number: the sides, and the stretch of the file
pub record Picture : Type 0 where
  pub width : ℕ
  pub height : ℕ
  pub offset : ℕ
  pub length : ℕ

-- refused: 0 by 0, and an empty stretch
abbrev pub nothing : Picture
nothing = record { width = 0; height = 0; offset = 0; length = 0 }

-- picture i of a plate
abbrev pub picture_of : List ℕ → ℕ → Picture
picture_of file i =
    record {
      width = (entry_of file i).width;
      height = (entry_of file i).height;
      offset = body_offset file i;
      length = (entry_of file i).length;
    }

-- Picture of a plate, to a reader whose newest version is r: 10, then 12
abbrev pub lookup_checks_to : ℕ → List ℕ → ℕ → List Check
lookup_checks_to r file index = check 10 (not (is_plate_to r file)) ∷ check 12 (leb (count file) index) ∷ []

-- the first refusal, or the picture of that index
unfoldable pub looked_up_to : ℕ → List ℕ → ℕ → Answer Picture
looked_up_to r file index = settled (first_of (lookup_checks_to r file index)) nothing (picture_of file index)

-- and both to this release
abbrev pub lookup_checks : List ℕ → ℕ → List Check
lookup_checks file index = lookup_checks_to newest file index

abbrev pub looked_up : List ℕ → ℕ → Answer Picture
looked_up file index = looked_up_to newest file index

-- the values beside a picture: its unit (1 milliohm, 2 microohm, 0 none) and its sheet
pub record Beside : Type 0 where
  pub unit : ℕ
  pub sheet : ℕ

abbrev pub beside : ℕ → ℕ → Beside
beside unit sheet = record { unit = unit; sheet = sheet }

-- Label of a picture: the same checks; unit and sheet of that index, which are 0 in version 1 and where it is refused
unfoldable pub labelled_up_to : ℕ → List ℕ → ℕ → Answer Beside
labelled_up_to r file index = settled (first_of (lookup_checks_to r file index)) (beside 0 0) (beside (entry_of file index).unit (entry_of file index).sheet)

abbrev pub labelled_up : List ℕ → ℕ → Answer Beside
labelled_up file index = labelled_up_to newest file index

-- the number of each unit
abbrev pub unit_number : Unit → ℕ
unit_number Unnamed = 0
unit_number Milliohm = 1
unit_number Microohm = 2

-- what a number of two bytes gives: the unit that has it, or a refusal of those above 2
abbrev pub UnitOf : ℕ → Result Unit Refusal → Type 0
UnitOf n (Ok unit) = unit_number unit ≡ n
UnitOf n (Err r) = 2 < n

-- the number and the values of each answer
abbrev pub answers : Result Found Refusal → Answer Picture
answers (Err r) = answered (number r) nothing
answers (Ok p) = answered 0 (record { width = p.size.w; height = p.size.h; offset = p.stretch.offset; length = p.stretch.length })

-- the stretch of the caller's own file among those values: offset bytes after the file's own start, and length bytes long
abbrev pub stretch_of : Bor (List ℕ) → Picture → SlicePart
stretch_of file p = record { block = file.ref_ptr.0; start = file.ref_ptr.1 + p.offset; bytes = take p.length (drop p.offset file.now) }

-- the same of a label
abbrev pub labels : Result Label Refusal → Answer Beside
labels (Err r) = answered (number r) (beside 0 0)
labels (Ok l) = answered 0 (beside (unit_number l.unit) l.sheet)

-- what asking for an entry finds: the number that its checks give, or the entry of a plate
abbrev pub Finds : List ℕ → ℕ → Result Entry Refusal → Type 0
Finds file index (Err r) = number r ≡ first_of (lookup_checks file index)
Finds file index (Ok e) = (is_plate file ≡ true) × (index < count file) × (e ≡ entry_of file index)
