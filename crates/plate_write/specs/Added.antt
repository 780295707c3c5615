-- A plate with one picture more, as a list of bytes.
use Rattle.std.specs.Prelude.{List, ◌++◌, ℕ, ◌+◌, drop}
use Rattle.plate_numbers.specs.Numbers.{version, count}
use Rattle.plate_format.specs.Format.{body_offset}
use Rattle.plate_written.specs.Written.{plate_of}
use Rattle.plate.specs.Lookup.{Beside}
use Rattle.plate_table.specs.Table.{entry_after}
use Rattle.plate_room.specs.Room.{new_entry}

-- the plate with one picture more: a table one entry longer, the bodies, and then the picture
unfoldable pub added : List ℕ → ℕ → ℕ → Beside → List ℕ → List ℕ
added file w h label picture = plate_of (version file) (count file + 1) (entry_after file (new_entry file w h label)) (drop (body_offset file 0) file ++ picture)
