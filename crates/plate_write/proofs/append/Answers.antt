-- Bodies, table and picture in their places are the plate with one picture more.
use mathlib.Core.Path.{◌≡◌, ◌∙◌, ap, ap₂}
use Prim.Native.Nat.{◌+◌}
use native.Mathlib.Nat.{sub-zero}
use native.Mathlib.Omega.{arith}
use borrow.Author.Rules.{rules}
use lib.ListN.{drop}
use Rattle.plate_numbers.specs.Numbers.{version, entry_size}
use Rattle.plate_format.specs.Format.{body_offset}
use Rattle.plate_format.specs.declared.Entry.{Entry}
use Rattle.plate.specs.Lookup.{beside}
use Rattle.plate_table.specs.Steps.{laid_at}
use Rattle.plate_room.specs.Room.{new_entry, in_use}
use Rattle.plate_empty.specs.Outcome.{grown}
use Rattle.plate_write.proofs.Appended.{file_long, tabled, first_low, fits, new_fits, opened, opened_ready, appended, length_is}
use Rattle.plate_write.proofs.append.Goals as goal
use Rattle.plate_write.proofs.append.Goals.{After-new_entry-new, After-table_end-end, After-move_bytes}

pub new_entry-new-requires : goal.new_entry-new-requires
new_entry-new-requires c = rw (sub-zero c.args.used) (new_fits c.requires)

-- the new entry, where its body starts, and where the bodies start
entry : (c : After-new_entry-new) → let a = c.args in c.new_entry-new.result ≡ new_entry (in_use a.buffer.now a.used) a.w a.h (beside a.unit a.sheet)
entry c = c.new_entry-new.ensures ∙ rw (sub-zero c.args.used)

start : (c : After-new_entry-new) → let a = c.args in c.new_entry-new.result.offset ≡ a.used + entry_size (version (in_use a.buffer.now a.used))
start c = ap (λ (e : Entry). e.offset) (entry c) ∙ rw (file_long c.requires)

pub table_end-end-requires : goal.table_end-end-requires
table_end-end-requires c = rw (sub-zero c.args.used) (tabled c.requires)

end : (c : After-table_end-end) → let a = c.args in c.table_end-end.result ≡ body_offset (in_use a.buffer.now a.used) 0
end c = c.table_end-end.ensures ∙ rw (sub-zero c.args.used)

pub overflow_sub-further : goal.overflow_sub-further
overflow_sub-further c = omega (arith, start (goal.at.overflow_sub-further c).After-new_entry-new)

pub overflow_add-end : goal.overflow_add-end
overflow_add-end c =
    let r = c.requires in
    let s = start (goal.at.overflow_add-end c).After-new_entry-new in
    let e = end (goal.at.overflow_add-end c).After-table_end-end in
    let l = first_low r in
    let f = fits r in
    search rules

pub overflow_sub-used : goal.overflow_sub-used
overflow_sub-used c = omega (arith, end (goal.at.overflow_sub-used c).After-table_end-end, first_low c.requires)

pub move_bytes-requires : goal.move_bytes-requires
move_bytes-requires c =
    let r = c.requires in
    let e = end (goal.at.move_bytes-requires c).After-table_end-end in
    (omega (arith, e, first_low r, r.inside), omega (arith, start (goal.at.move_bytes-requires c).After-new_entry-new, e, first_low r, fits r))

-- the bodies stand one table entry further on
opens : (c : After-move_bytes) → let a = c.args in let file = in_use a.buffer.now a.used in
    c.new_entry-new.result.offset ≡ a.used + entry_size (version file) →
    c.table_end-end.result ≡ body_offset file 0 →
    c.move_bytes.new.bytes ≡ laid_at (body_offset file 0 + entry_size (version file)) (drop (body_offset file 0) file) a.buffer.now
opens c s e = opened c.requires s (rw e at c.move_bytes.ensures)

pub retable-requires : goal.retable-requires
retable-requires c = opened_ready c.requires (opens (goal.at.retable-requires c).After-move_bytes (start (goal.at.retable-requires c).After-new_entry-new) (end (goal.at.retable-requires c).After-table_end-end))

pub slice_bounds-copy_bytes-end : goal.slice_bounds-copy_bytes-end
slice_bounds-copy_bytes-end c =
    let r = c.requires in
    let s = start (goal.at.slice_bounds-copy_bytes-end c).After-new_entry-new in
    let f = fits r in
    let x = r.exact in
    search rules

pub returns : goal.returns
returns c =
    let r = c.requires in
    let a = c.args in
    let s = start (goal.at.returns c).After-new_entry-new in
    ap₂ grown (appended r (opens (goal.at.returns c).After-move_bytes (start (goal.at.returns c).After-new_entry-new) (end (goal.at.returns c).After-table_end-end)) (beside a.unit a.sheet) s (rw (entry (goal.at.returns c).After-new_entry-new) at c.retable.ensures) (rw c.copy_bytes.ensures)) (length_is r s)
