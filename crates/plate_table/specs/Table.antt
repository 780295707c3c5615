-- The table of a plate that gets one entry more: the old entries, whose bodies stand further on, and then the new one.
use Rattle.std.specs.Prelude.{cond, List, ◌++◌, ℕ, ◌+◌, ltb}
use Rattle.plate_numbers.specs.Numbers.{version, count, entry_size}
use Rattle.plate_format.specs.Format.{entry_of}
use Rattle.plate_written.specs.Written.{header_bytes, table_of}
use Rattle.plate_format.specs.declared.Entry.{Entry}

-- an old entry: its body stands one table entry, s bytes, further on
abbrev pub further : ℕ → Entry → Entry
further s e = record { width = e.width; height = e.height; offset = e.offset + s; length = e.length; unit = e.unit; sheet = e.sheet }

-- entry i of the new table: the old ones, every offset set anew, and then the new one
unfoldable pub entry_after : List ℕ → Entry → ℕ → Entry
entry_after file new i = cond (ltb i (count file)) (further (entry_size (version file)) (entry_of file i)) new

-- header and table of a plate that gets this entry
abbrev pub head_after : List ℕ → Entry → List ℕ
head_after file new = header_bytes (version file) (count file + 1) ++ table_of (version file) (entry_after file new) (count file + 1)
