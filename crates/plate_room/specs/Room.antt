-- A picture that is to be added to a plate: the stretch that must be a plate, the entry that the picture gets, and the room for both.
use Rattle.std.specs.Prelude.{Bool, cond, not, ◌||◌, List, ℕ, ◌+◌, ltb, length, take}
use Rattle.picture.specs.Planes.{bytes_of}
use Rattle.plate_numbers.specs.Numbers.{version, count, labelled, entry_size, largest_whole, wrong_unit}
use Rattle.plate_format.specs.Format.{max_count, is_plate}
use Rattle.plate_format.specs.declared.Entry.{Entry}
use Rattle.plate.specs.Lookup.{Beside}

-- the stretch of the buffer that the plate rules are read on
abbrev pub in_use : List ℕ → ℕ → List ℕ
in_use buffer used = take used buffer

-- 10: the length in use lies beyond the buffer, that stretch is no plate, or the unit is none of its version's
unfoldable pub no_plate : List ℕ → ℕ → ℕ → Bool
no_plate buffer used unit =
    ltb (length buffer) used || (not (is_plate (in_use buffer used)) || wrong_unit (version (in_use buffer used)) unit)

-- a unit or a sheet that is given: version 1 ignores it
unfoldable pub given : ℕ → ℕ → ℕ
given v n = cond (labelled v) n 0

-- the new entry: the sides, a body that comes after all others, and the label
abbrev pub new_entry : List ℕ → ℕ → ℕ → Beside → Entry
new_entry file w h label =
    record {
      width = w;
      height = h;
      offset = length file + entry_size (version file);
      length = bytes_of w h;
      unit = given (version file) label.unit;
      sheet = given (version file) label.sheet;
    }

-- how long the plate with one picture more is
unfoldable pub length_after : List ℕ → ℕ → ℕ → ℕ
length_after file w h = length file + entry_size (version file) + bytes_of w h

-- 13: it would pass 64 pictures, its version's most bytes, or the buffer
unfoldable pub no_room : ℕ → List ℕ → ℕ → ℕ → Bool
no_room room file w h =
    ltb max_count (count file + 1) || (ltb (largest_whole (version file)) (length_after file w h) || ltb room (length_after file w h))
