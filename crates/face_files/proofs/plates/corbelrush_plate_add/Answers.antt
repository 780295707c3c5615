-- Each case of the answer is its number, with the length in use behind the pointer.
use Rattle.face_files.proofs.plates.corbelrush_plate_add.Goals as goal

pub returns-in-Err : goal.returns-in-Err
returns-in-Err c = rw c.number.ensures (rw c.in-Err.is at c.plate_add.ensures)

pub returns-in-Ok : goal.returns-in-Ok
returns-in-Ok c = rw c.in-Ok.is at c.plate_add.ensures
