-- The numbers of a plate file, on a list of bytes, and what its version fixes.
use Rattle.std.specs.Prelude.{Bool, not, cond, ◌&&◌, List, ℕ, ◌+◌, ◌*◌, eqb, get_or}
use Rattle.picture.specs.Sizes.{max_side}
use Rattle.picture.specs.Refusal.{zero_or_above}

-- little-endian: a number of two bytes, and one of four
unfoldable pub u16_at : List ℕ → ℕ → ℕ
u16_at file at = get_or file at 0 + 256 * get_or file (at + 1) 0

unfoldable pub u32_at : List ℕ → ℕ → ℕ
u32_at file at = u16_at file at + 65536 * u16_at file (at + 2)

-- two bytes version, two bytes count
abbrev pub version : List ℕ → ℕ
version file = u16_at file 0

abbrev pub count : List ℕ → ℕ
count file = u16_at file 2

-- the versions, from 1 on, of a reader whose newest is r; and the newest of this release
unfoldable pub known_to : ℕ → ℕ → Bool
known_to r v = not (zero_or_above r v)

unfoldable pub newest : ℕ
newest = 3

abbrev pub known : ℕ → Bool
known v = known_to newest v

-- version 1 has no unit and no sheet beside a picture; all others have
unfoldable pub labelled : ℕ → Bool
labelled v = not (eqb v 1)

-- version 3 is for larger scans
unfoldable pub larger : ℕ → Bool
larger v = eqb v 3

-- what a version fixes: how many bytes an entry has, the largest side, and the most bytes of the whole
unfoldable pub entry_size : ℕ → ℕ
entry_size v = cond (labelled v) 16 12

unfoldable pub largest_side : ℕ → ℕ
largest_side v = cond (larger v) max_side 4096

unfoldable pub largest_whole : ℕ → ℕ
largest_whole v = cond (larger v) 16777216 16384

-- a unit but 1 or 2, where the version has one
unfoldable pub wrong_unit : ℕ → ℕ → Bool
wrong_unit v unit = labelled v && zero_or_above 2 unit
