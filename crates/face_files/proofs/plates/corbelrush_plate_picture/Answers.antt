-- Refused, and all is 0; or found, and the pointers hold the picture's sides and stretch.
use native.Mathlib.Omega.{arith}
use Rattle.face_files.proofs.Sides.{sides_fit}
use Rattle.face_files.proofs.plates.corbelrush_plate_picture.Goals as goal

pub overflow_cast-w : goal.overflow_cast-w
overflow_cast-w c =
    let found = rw c.in-Ok.is at c.find_picture.ensures in
    omega (arith, c.width.ensures, (sides_fit c.args.plate.now c.args.index found).0)

pub overflow_cast-h : goal.overflow_cast-h
overflow_cast-h c =
    let found = rw c.in-Ok.is at c.find_picture.ensures in
    omega (arith, c.height.ensures, (sides_fit c.args.plate.now c.args.index found).1)

pub returns-in-Err : goal.returns-in-Err
returns-in-Err c =
    rw c.number.ensures (rw c.in-Err.is at c.find_picture.ensures)

pub returns-in-Ok : goal.returns-in-Ok
returns-in-Ok c = rw (c.width.ensures, c.height.ensures) (rw c.in-Ok.is at c.find_picture.ensures)
