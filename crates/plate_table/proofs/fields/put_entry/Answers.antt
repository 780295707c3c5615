-- The fields one after the other are the entry's bytes.
use native.Mathlib.Omega.{arith}
use borrow.Author.Rules.{rules}
use Rattle.plate_written.specs.Written.{bytes16, bytes32, entry_bytes}
use Rattle.plate_numbers.proofs.Versions.{entry_room}
use Rattle.plate_written.proofs.Written.{length_label}
use Rattle.plate_table.proofs.Laid.{laid_then}
use Rattle.plate_table.proofs.fields.put_entry.Goals as goal

pub put_u16-requires : goal.put_u16-requires
put_u16-requires c = omega (arith, c.requires, entry_room c.args.v)

pub put_u16-requires-2 : goal.put_u16-requires-2
put_u16-requires-2 c = let r = entry_room c.args.v in search rules

pub put_u32-requires : goal.put_u32-requires
put_u32-requires c = let r = entry_room c.args.v in search rules

pub put_u32-requires-2 : goal.put_u32-requires-2
put_u32-requires-2 c = let r = entry_room c.args.v in search rules

pub put_label-requires : goal.put_label-requires
put_label-requires c =
    let a = c.args in
    let l = length_label a.v a.e.unit a.e.sheet in
    let p = c.requires in
    search rules

pub returns : goal.returns
unfolding bytes16 bytes32 entry_bytes
returns c =
    let r = entry_room c.args.v in
    let q = c.requires in
    let sides = laid_then _ _ _ _ _ c.put_u16.ensures c.put_u16-2.ensures (omega arith) (omega arith) in
    let offset = laid_then _ _ _ _ _ sides c.put_u32.ensures (omega arith) (omega arith) in
    let length = laid_then _ _ _ _ _ offset c.put_u32-2.ensures (omega arith) (omega arith) in
    laid_then _ _ _ _ _ length c.put_label.ensures (omega arith) (omega arith)
