-- The first parts of the work buffers are lent, come back, and are cleared.
use mathlib.Core.Path.{sym}
use Rattle.drop_shadow.proofs.Accepted.{parts_ready, scratch_part, copy_part, scratch_cleared, copy_cleared}
use Rattle.drop_shadow.proofs.shadow_accepted.Goals as goal

pub slice_bounds-apply_drop_shadow-end-2 : goal.slice_bounds-apply_drop_shadow-end-2
slice_bounds-apply_drop_shadow-end-2 c = sym (scratch_part c.requires c.bytes-k.ensures)

pub slice_bounds-apply_drop_shadow-end-4 : goal.slice_bounds-apply_drop_shadow-end-4
slice_bounds-apply_drop_shadow-end-4 c = sym (copy_part c.requires c.bytes-k.ensures)

pub apply_drop_shadow-requires : goal.apply_drop_shadow-requires
apply_drop_shadow-requires c = let r = c.requires in record { fact_1 = parts_ready r c.bytes-k.ensures; fact_2 = r.pictured.exact }

pub returns : goal.returns
returns c =
    let r = c.requires in
    let work = c.apply_drop_shadow in
    rw (
      work.ensures,
      scratch_cleared r c.bytes-k.ensures work.new.scratch work.auto.scratch c.clear.ensures,
      copy_cleared r c.bytes-k.ensures work.new.plane work.auto.plane c.clear-2.ensures,
    )
