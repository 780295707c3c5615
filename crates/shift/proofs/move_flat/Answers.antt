-- The bytes move as one line, and what came in from another row is set to zero.
use mathlib.Core.Path.{◌∙◌, ap}
use Prim.Native.Nat.{◌*◌, ◌<◌}
use native.Mathlib.Omega.{arith}
use Rattle.shift.specs.Bytes.{along, inside_kept}
use Rattle.shift.proofs.Plane.{flat, flat_fits, slid_kept}
use Rattle.shift.proofs.move_flat.Goals as goal
use Rattle.shift.proofs.move_flat.Goals.{After-slide-arg-1}

-- no place along all rows is too far
room : (c : After-slide-arg-1) → let a = c.args in ((flat a.w (along a.dx) a.dy).plus < a.h * a.w) × ((flat a.w (along a.dx) a.dy).minus < a.h * a.w)
room c = let a = c.args in flat_fits (along a.dx) a.dy a.w a.h (omega arith) (omega arith)

pub overflow_mul-dy : goal.overflow_mul-dy
overflow_mul-dy c = omega (arith, room c.before)

pub overflow_add-dy : goal.overflow_add-dy
overflow_add-dy c = omega (arith, room c.before.before)

pub overflow_mul-dy-2 : goal.overflow_mul-dy-2
overflow_mul-dy-2 c = omega (arith, room c.before.before.before)

pub overflow_add-dy-2 : goal.overflow_add-dy-2
overflow_add-dy-2 c = omega (arith, room c.before.before.before.before)

pub slide-requires : goal.slide-requires
slide-requires c = let r = room c.before.before.before.before in (omega arith, omega arith)

pub returns : goal.returns
returns c =
    let a = c.args in
    c.clear_exposed.ensures
    ∙ ap (inside_kept (along a.dx) a.w) c.slide.ensures
    ∙ slid_kept (along a.dx) a.dy a.w a.h a.bytes.now c.requires.0
