-- Each case of the entry's answer, behind the pointers.
use Rattle.face_files.proofs.images.corbelrush_pam_write.Goals as goal

pub returns-in-Err : goal.returns-in-Err
returns-in-Err c = rw c.number.ensures (rw c.in-Err.is at c.pam_write.ensures)

pub returns-in-Ok : goal.returns-in-Ok
returns-in-Ok c = rw c.in-Ok.is at c.pam_write.ensures
