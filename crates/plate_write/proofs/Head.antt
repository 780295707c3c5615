-- Header and table of a plate that gets one entry more: how long they are, and that such a plate begins with them.
use mathlib.Core.Path.{◌≡◌, refl, sym}
use mathlib.Core.List.{List, ◌++◌, append_assoc}
use Prim.Native.Nat.{ℕ, ◌+◌, ◌*◌}
use native.Mathlib.Nat.{add-mul, one-mul}
use native.Mathlib.Omega.{arith}
use lib.ListN.{length, drop, length-append}
use Rattle.plate_numbers.specs.Numbers.{version, count, entry_size}
use Rattle.plate_format.specs.Format.{body_offset}
use Rattle.plate_written.specs.Written.{header_bytes, table_of, plate_of}
use Rattle.plate_format.specs.declared.Entry.{Entry}
use Rattle.plate_written.proofs.Written.{length_header, length_table}
use Rattle.plate.specs.Lookup.{Beside}
use Rattle.plate_table.specs.Table.{entry_after, head_after}
use Rattle.plate_room.specs.Room.{new_entry}
use Rattle.plate_write.specs.Added.{added}

-- where the bodies start
pub first_is : (file : List ℕ) → body_offset file 0 ≡ 4 + count file * entry_size (version file)
unfolding body_offset
first_is file = refl

-- one entry further on they end
pub head_long : (file : List ℕ) (new : Entry) → length (head_after file new) ≡ body_offset file 0 + entry_size (version file)
head_long file new =
    let size = entry_size (version file) in
    simp length-append
    (omega (arith, length_header (version file) (count file + 1), length_table (version file) (entry_after file new) (count file + 1), first_is file, add-mul (count file) 1 size, one-mul size))

pub added_is : (file : List ℕ) (w h : ℕ) (label : Beside) (picture : List ℕ) →
    added file w h label picture ≡ head_after file (new_entry file w h label) ++ (drop (body_offset file 0) file ++ picture)
unfolding added plate_of
added_is file w h label picture =
    sym
    (append_assoc (header_bytes (version file) (count file + 1)) (table_of (version file) (entry_after file (new_entry file w h label)) (count file + 1)) (drop (body_offset file 0) file ++ picture))
