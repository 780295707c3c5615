-- The plate file: its table, its bodies and its rules, on a list of bytes.
use Rattle.std.specs.Prelude.{Bool, true, not, cond, ◌&&◌, List, ℕ, zero, suc, ◌+◌, ◌*◌, leb, eqb, length}
use Rattle.picture.specs.Refusal.{sides_outside, wrong_length}
use Rattle.plate_numbers.specs.Numbers.{u16_at, u32_at, version, count, known_to, newest, labelled, entry_size, largest_side, largest_whole, wrong_unit}
use Rattle.plate_format.specs.declared.Entry.{Entry}

-- the most pictures of a plate
unfoldable pub max_count : ℕ
max_count = 64

-- then one entry each: where entry i stands; the table ends where an entry `count` would stand
abbrev pub entry_at : List ℕ → ℕ → ℕ
entry_at file i = 4 + i * entry_size (version file)

-- a number of two bytes that version 1 does not have, and is 0 there
unfoldable pub label_at : ℕ → List ℕ → ℕ → ℕ
label_at v file at = cond (labelled v) (u16_at file at) 0

-- an entry: width, height (2 bytes), offset, length (4 bytes), unit, sheet (2 bytes)
unfoldable pub entry_of : List ℕ → ℕ → Entry
entry_of file i =
    record {
      width = u16_at file (entry_at file i);
      height = u16_at file (entry_at file i + 2);
      offset = u32_at file (entry_at file i + 4);
      length = u32_at file (entry_at file i + 8);
      unit = label_at (version file) file (entry_at file i + 12);
      sheet = label_at (version file) file (entry_at file i + 14);
    }

-- then the bodies in table order, no gaps: body i starts at the table's end plus the lengths before it
unfoldable pub body_offset : List ℕ → ℕ → ℕ
body_offset file zero = entry_at file (count file)
body_offset file (suc i) = body_offset file i + (entry_of file i).length

-- sides of which one is 0 or above the version's largest
unfoldable pub wrong_sides_of : ℕ → ℕ → ℕ → Bool
wrong_sides_of v w h = sides_outside (largest_side v) w h

-- what an entry whose body starts at `start` obeys: the sides, a length of 4wh, the unit, and that offset
unfoldable pub obeys : ℕ → ℕ → Entry → Bool
obeys v start e =
    not (wrong_sides_of v e.width e.height)
    && not (wrong_length e.length e.width e.height)
    && not (wrong_unit v e.unit)
    && eqb e.offset start

-- entry i does
abbrev pub entry_obeys : List ℕ → ℕ → Bool
entry_obeys file i = obeys (version file) (body_offset file i) (entry_of file i)

-- a test that holds at each number below n
unfoldable pub all_below : ℕ → (ℕ → Bool) → Bool
all_below zero f = true
all_below (suc n) f = all_below n f && f n

-- the entries obey, and after the bodies there is nothing
unfoldable pub filled : List ℕ → Bool
filled file = all_below (count file) (entry_obeys file) && eqb (length file) (body_offset file (count file))

-- the plate rules, to a reader whose newest version is r
unfoldable pub is_plate_to : ℕ → List ℕ → Bool
is_plate_to r file =
    known_to r (version file)
    && leb (count file) max_count
    && filled file
    && leb (length file) (largest_whole (version file))

-- and to this release
abbrev pub is_plate : List ℕ → Bool
is_plate file = is_plate_to newest file
