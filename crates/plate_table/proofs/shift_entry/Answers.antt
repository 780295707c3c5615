-- The entry that is written is the one that was read, its offset further on.
use mathlib.Core.Path.{◌∙◌, ap}
use native.Mathlib.Omega.{arith}
use Rattle.plate_numbers.specs.Numbers.{version, entry_size}
use Rattle.plate_format.specs.declared.Entry.{Entry}
use Rattle.plate_numbers.proofs.Versions.{entry_room}
use Rattle.plate_format.proofs.Table.{entry_inside}
use Rattle.plate_table.proofs.shift_entry.Goals as goal

pub overflow_cast-further : goal.overflow_cast-further
overflow_cast-further c = omega (arith, c.entry_size.ensures, ap entry_size c.version-v.ensures, entry_room (version c.args.bytes.now))

pub overflow_add-further : goal.overflow_add-further
overflow_add-further c = omega (arith, c.entry_size.ensures, ap entry_size c.version-v.ensures, ap (λ (e : Entry). e.offset) c.read_entry-e.ensures, c.requires.2)

pub put_entry-requires : goal.put_entry-requires
put_entry-requires c =
    omega (arith, c.entry_at-at.ensures, ap entry_size c.version-v.ensures, entry_inside c.args.bytes.now c.args.i _ c.requires.1, c.requires.0.inside)

pub returns : goal.returns
returns c = c.put_entry.ensures ∙ rw (c.entry_at-at.ensures, c.entry_size.ensures, c.version-v.ensures, c.read_entry-e.ensures)
