-- Each product is one that the arithmetic has room for.
use Prim.Native.Nat.{◌≤◌}
use native.Mathlib.Omega.{arith}
use Rattle.passes.specs.Forms.{row_bytes, plane_bytes, form_bytes}
use Rattle.passes.proofs.Forms.{form_room}
use Rattle.passes.proofs.form_bytes.Goals as goal
use Rattle.passes.proofs.form_bytes.Goals.{After-height-h}

-- the sides are the level's
room : (c : After-height-h) →
    let f = c.args.form in
    let w = c.width-w.result in
    let h = c.height-h.result in
    (row_bytes f w ≤ 262144) × (plane_bytes f w h ≤ 17179869184) × (form_bytes f w h ≤ 68719476736)
room c = rw (c.width-w.ensures, c.height-h.ensures) (form_room c.args.form c.requires.fact_1 c.requires.fact_2)

pub overflow_mul-result : goal.overflow_mul-result
overflow_mul-result c = omega (arith, room c.before)

pub overflow_mul-result-2 : goal.overflow_mul-result-2
overflow_mul-result-2 c = omega (arith, room c.before)

pub overflow_mul-result-3 : goal.overflow_mul-result-3
overflow_mul-result-3 c = omega (arith, room c.before.before)

pub returns : goal.returns
returns c = rw (c.width-w.ensures, c.height-h.ensures)
