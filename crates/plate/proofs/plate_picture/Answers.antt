-- The answered stretch lies within the file, so the part is that stretch.
use mathlib.Core.Path.{◌≡◌, ap}
use mathlib.Core.List.{List}
use Prim.Native.Nat.{ℕ, ◌+◌, ◌≤◌}
use native.Mathlib.Nat.{add_comm, add-sub_cancel_left}
use native.Mathlib.Omega.{arith}
use lib.ListN.{length}
use Rattle.picture.specs.Answer.{Answer, answered}
use Rattle.plate.specs.Lookup.{Picture, looked_up}
use Rattle.plate.proofs.Settle.{stretch_inside}
use Rattle.plate.proofs.plate_picture.Goals as goal

inside : (file : List ℕ) (index : ℕ) (p : Picture) → answered 0 p ≡ looked_up file index → p.offset + p.length ≤ length file
inside file index p e =
    omega (arith, stretch_inside file index, ap (λ (a : Answer Picture). a.left.offset) e, ap (λ (a : Answer Picture). a.left.length) e)

pub overflow_add-b : goal.overflow_add-b
overflow_add-b c = omega (arith, inside c.args.plate.now c.args.index _ c.in-Ok.ensures)

pub slice_bounds-result-end-2 : goal.slice_bounds-result-end-2
slice_bounds-result-end-2 c = inside c.args.plate.now c.args.index _ c.in-Ok.ensures

pub returns : goal.returns
returns c =
    let s = c.in-Ok.found.stretch in
    rw (← c.in-Ok.ensures, add-sub_cancel_left s.offset s.length, add_comm s.offset c.args.plate.ref_ptr.1)
