-- An entry of the table lies within the bytes, and each field within the entry.
use mathlib.Core.Path.{◌≡◌, ap}
use mathlib.Core.Bool.{true}
use Prim.Native.Nat.{◌+◌, ◌≤◌}
use native.Mathlib.Omega.{arith}
use borrow.Author.Rules.{rules}
use lib.ListN.{length}
use Rattle.plate_numbers.specs.Numbers.{version, labelled, entry_size}
use Rattle.plate_format.specs.Format.{entry_of}
use Rattle.plate_numbers.proofs.Versions.{with_label, entry_room}
use Rattle.plate_format.proofs.Table.{entry_inside}
use Rattle.plate_format.proofs.read_entry.Goals as goal
use Rattle.plate_format.proofs.read_entry.Lts as lts
use Rattle.plate_format.proofs.read_entry.Reads as reads
use Rattle.plate_format.proofs.read_entry.Tie as tie

abbrev the_After-entry_at-at : Type 0
the_After-entry_at-at = lts.After-entry_at tie.the-claims reads.Pre reads.Post

-- the entry, of its version's size ..
inside : (c : the_After-entry_at-at) → c.entry_at-at.result + entry_size (version c.args.file.now) ≤ length c.args.file.now
inside c =
    let file = c.args.file.now in
    omega (arith, c.entry_at-at.ensures, entry_inside file c.args.i _ c.requires.1, c.requires.0.inside)

-- .. has 12 bytes, and 16 where it has a label
room : (c : the_After-entry_at-at) → c.entry_at-at.result + 12 ≤ length c.args.file.now
room c = omega (arith, inside c, entry_room (version c.args.file.now))

label : (c : the_After-entry_at-at) → labelled c.version-v.result ≡ true → c.entry_at-at.result + 16 ≤ length c.args.file.now
label c t = omega (arith, inside c, with_label _ t, ap entry_size c.version-v.ensures)

pub u16_at-requires : goal.u16_at-requires
u16_at-requires c = omega (arith, room c.before)

pub overflow_add-at : goal.overflow_add-at
overflow_add-at c = omega (arith, room c.before.before)

pub u16_at-requires-2 : goal.u16_at-requires-2
u16_at-requires-2 c = omega (arith, room c.before.before)

pub overflow_add-at-2 : goal.overflow_add-at-2
overflow_add-at-2 c = omega (arith, room c.before.before.before)

pub u32_at-requires : goal.u32_at-requires
u32_at-requires c = omega (arith, room c.before.before.before)

pub overflow_add-at-3 : goal.overflow_add-at-3
overflow_add-at-3 c = omega (arith, room c.before.before.before.before)

pub u32_at-requires-2 : goal.u32_at-requires-2
u32_at-requires-2 c = omega (arith, room c.before.before.before.before)

pub overflow_add-at-4 : goal.overflow_add-at-4
overflow_add-at-4 c = let r = room c.before.before.before.before.before in search rules

pub label_at-requires : goal.label_at-requires
label_at-requires c t = omega (arith, label c.before.before.before.before.before t)

pub overflow_add-at-5 : goal.overflow_add-at-5
overflow_add-at-5 c = let r = room c.before.before.before.before.before.before in search rules

pub label_at-requires-2 : goal.label_at-requires-2
label_at-requires-2 c t = omega (arith, label c.before.before.before.before.before.before t)

pub returns : goal.returns
unfolding entry_of
returns c =
    rw (
      c.u16_at.ensures,
      c.u16_at-2.ensures,
      c.u32_at.ensures,
      c.u32_at-2.ensures,
      c.label_at.ensures,
      c.label_at-2.ensures,
      c.entry_at-at.ensures,
      c.version-v.ensures,
    )
