-- Refused, and both are 0; or found, and the pointers hold the unit's number and the sheet.
use Rattle.face_files.proofs.plates.corbelrush_plate_label.Goals as goal

pub returns-in-Err : goal.returns-in-Err
returns-in-Err c = rw c.number.ensures (rw c.in-Err.is at c.find_label.ensures)

pub returns-in-Ok : goal.returns-in-Ok
returns-in-Ok c = rw c.number-in-Ok.ensures (rw c.in-Ok.is at c.find_label.ensures)
