-- The old entries, the new one after them, and the header before them.
use mathlib.Core.Path.{◌≡◌, ap}
use native.Mathlib.Nat.{add-mul, one-mul}
use borrow.Author.Rules.{rules}
use Rattle.plate_numbers.specs.Numbers.{version, count, entry_size}
use Rattle.plate_format.specs.Format.{entry_at, body_offset}
use Rattle.plate_table.proofs.Retabled.{retabled}
use Rattle.plate_table.proofs.retable.Goals as goal

pub put_entry-requires : goal.put_entry-requires
unfolding body_offset
put_entry-requires c =
    let s = entry_size (version c.args.bytes.now) in
    let room = c.requires.room in
    let more = add-mul (count c.args.bytes.now) 1 s in
    let at : c.table_end-end.result ≡ entry_at c.args.bytes.now (count c.args.bytes.now) = c.table_end-end.ensures in
    let v = ap entry_size c.version-v.ensures in
    let one = one-mul s in
    search rules

pub returns : goal.returns
unfolding body_offset
returns c =
    let v = c.version-v.ensures in
    let at : c.table_end-end.result ≡ entry_at c.args.bytes.now (count c.args.bytes.now) = c.table_end-end.ensures in
    retabled _ c.requires _ _ _ _ c.shift_entries.ensures (rw (at, v) at c.put_entry.ensures) (rw (v, c.count-n.ensures) at c.put_header.ensures)
