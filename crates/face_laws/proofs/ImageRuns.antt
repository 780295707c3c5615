-- Image files for C: whatever a contract allows of one call is one, two runs that are given the same leave the same, and each contract can be met.
use mathlib.Core.Path.{◌∙◌, refl, sym}
use mathlib.Core.List.{List}
use Prim.Native.Nat.{ℕ}
use contract.Lifetimes.{Lfts}
use borrow.Fn.Kinds.{Dens}
use Rattle.picture.specs.Answer.{Answer, answered}
use Rattle.face_laws.proofs.Determined.{Determined}
use Rattle.face_laws.proofs.Runs.{CanBeMet, SameRuns, same_runs}
use Rattle.pam.specs.Import.{PictureRead, import_outcome}
use Rattle.pam.specs.Export.{FileLeft, file_left, export_outcome}
use Rattle.face_files.specs.Images.{read_in}
use Rattle.face_files.proofs.images.corbelrush_pam_read.Reads as pam-read
use Rattle.face_files.proofs.images.corbelrush_pam_read.Kinds as pam-read-kinds
use Rattle.face_files.proofs.images.corbelrush_pam_write.Reads as pam-write
use Rattle.face_files.proofs.images.corbelrush_pam_write.Kinds as pam-write-kinds

-- ---- reading an image file
pub pam_read_determined : Determined pam-read-kinds.ps pam-read-kinds.r pam-read.Post (λ κs r x. answered r (read_in x.1.1.0.now x.1.1.1.0.now x.1.1.1.1.0.now x.1.0.now))
pam_read_determined κs a r₁ r₂ x₁ x₂ h₁ h₂ = h₁ ∙ sym h₂

abbrev PamReadGiven : Type 0
PamReadGiven = List ℕ × List ℕ

abbrev pam_read_given : (κs : Lfts 5) → Dens κs pam-read-kinds.ps → PamReadGiven
pam_read_given κs a = (a.0.now, a.1.0.now)

abbrev pam_read_leaves : PamReadGiven → Answer PictureRead
pam_read_leaves g = import_outcome g.0 g.1

pub pam_read_runs : SameRuns pam-read-kinds.ps pam-read-kinds.r pam-read.Post pam_read_given (λ κs r x. answered r (read_in x.1.1.0.now x.1.1.1.0.now x.1.1.1.1.0.now x.1.0.now))
pam_read_runs = same_runs pam-read-kinds.ps pam-read-kinds.r pam-read.Post pam_read_given _ pam_read_leaves (λ κs a v x h. h)

pub pam_read_met : CanBeMet pam-read-kinds.ps pam-read-kinds.r pam-read.Post
pam_read_met =
    record {
      number = λ κs a. (pam_read_leaves (pam_read_given κs a)).number;
      left = λ κs a. let l = (pam_read_leaves (pam_read_given κs a)).left in (tt, (l.picture, (l.width, (l.height, (l.written, tt)))));
      meets = λ κs a. refl;
    }

-- ---- writing an image file
pub pam_write_determined : Determined pam-write-kinds.ps pam-write-kinds.r pam-write.Post (λ κs r x. answered r (file_left x.1.1.1.1.0.now x.1.1.1.1.1.0.now x.1.1.1.0.now))
pam_write_determined κs a r₁ r₂ x₁ x₂ h₁ h₂ = h₁ ∙ sym h₂

abbrev PamWriteGiven : Type 0
PamWriteGiven = List ℕ × ℕ × ℕ × List ℕ

abbrev pam_write_given : (κs : Lfts 4) → Dens κs pam-write-kinds.ps → PamWriteGiven
pam_write_given κs a = (a.0.now, a.1.0, a.1.1.0, a.1.1.1.0.now)

abbrev pam_write_leaves : PamWriteGiven → Answer FileLeft
pam_write_leaves g = export_outcome g.0 g.1 g.2 g.3

pub pam_write_runs : SameRuns pam-write-kinds.ps pam-write-kinds.r pam-write.Post pam_write_given (λ κs r x. answered r (file_left x.1.1.1.1.0.now x.1.1.1.1.1.0.now x.1.1.1.0.now))
pam_write_runs = same_runs pam-write-kinds.ps pam-write-kinds.r pam-write.Post pam_write_given _ pam_write_leaves (λ κs a v x h. h)

pub pam_write_met : CanBeMet pam-write-kinds.ps pam-write-kinds.r pam-write.Post
pam_write_met =
    record {
      number = λ κs a. (pam_write_leaves (pam_write_given κs a)).number;
      left = λ κs a. let l = (pam_write_leaves (pam_write_given κs a)).left in (tt, (tt, (tt, (l.file, (l.written, (l.place, tt))))));
      meets = λ κs a. refl;
    }
