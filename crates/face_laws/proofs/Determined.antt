-- Whatever a contract allows of one call is one: any two numbers returned, with what C sees afterwards, coincide.
use mathlib.Core.Path.{◌≡◌, ◌∙◌, sym}
use mathlib.Core.List.{List}
use Prim.Native.Nat.{ℕ}
use contract.Lifetimes.{Lfts}
use borrow.Fn.Kinds.{ParamKind, ResultKind, Out, Dens, res_t, ended_of}
use denote.Triple.Clauses.{AtExit}
use Rattle.picture.specs.Answer.{answered, lent, lent_copy}
use Rattle.plate.specs.Lookup.{beside}
use Rattle.plate_empty.specs.Outcome.{grown}
use Rattle.face_grades.specs.Words.{pointers}
use Rattle.face_files.specs.Words.{picture_in}
use Rattle.face_filters.proofs.filters.corbelrush_blur.Reads as blur
use Rattle.face_filters.proofs.filters.corbelrush_blur.Kinds as blur-kinds
use Rattle.face_filters.proofs.filters.corbelrush_shift.Reads as shift
use Rattle.face_filters.proofs.filters.corbelrush_shift.Kinds as shift_kinds
use Rattle.face_filters.proofs.filters.corbelrush_shadow.Reads as shadow
use Rattle.face_filters.proofs.filters.corbelrush_shadow.Kinds as shadow-kinds
use Rattle.face_grades.proofs.grades.corbelrush_check.Reads as check
use Rattle.face_grades.proofs.grades.corbelrush_check.Kinds as check-kinds
use Rattle.face_grades.proofs.grades.corbelrush_view.Reads as view
use Rattle.face_grades.proofs.grades.corbelrush_view.Kinds as view-kinds
use Rattle.face_grades.proofs.grades.corbelrush_sample.Reads as sample
use Rattle.face_grades.proofs.grades.corbelrush_sample.Kinds as sample-kinds
use Rattle.face_grades.proofs.grades.corbelrush_spread.Reads as spread
use Rattle.face_grades.proofs.grades.corbelrush_spread.Kinds as spread-kinds
use Rattle.face_files.proofs.plates.corbelrush_plate_picture.Reads as plate-picture
use Rattle.face_files.proofs.plates.corbelrush_plate_picture.Kinds as plate-picture-kinds
use Rattle.face_files.proofs.plates.corbelrush_plate_label.Reads as plate-label
use Rattle.face_files.proofs.plates.corbelrush_plate_label.Kinds as plate-label-kinds
use Rattle.face_files.proofs.plates.corbelrush_plate_job.Reads as plate-job
use Rattle.face_files.proofs.plates.corbelrush_plate_job.Kinds as plate-job-kinds
use Rattle.face_files.proofs.plates.corbelrush_plate_start.Reads as plate-start
use Rattle.face_files.proofs.plates.corbelrush_plate_start.Kinds as plate-start-kinds
use Rattle.face_files.proofs.plates.corbelrush_plate_add.Reads as plate-add
use Rattle.face_files.proofs.plates.corbelrush_plate_add.Kinds as plate-add-kinds

-- `seen` is what C sees of a call: the number, and what is behind each pointer that the call may write through
module _ {n : ℕ} (ps : List (ParamKind n)) (r : ResultKind n) (Post : Out n ps r) {B : Type 0} (seen : (κs : Lfts n) → (res_t r κs).Denot → AtExit (ended_of n ps r) κs → B) where
  abbrev pub Determined : Type 0
  Determined = (κs : Lfts n) (a : Dens κs ps) (r₁ r₂ : (res_t r κs).Denot) (x₁ x₂ : AtExit (ended_of n ps r) κs) → Post κs a r₁ x₁ → Post κs a r₂ x₂ → seen κs r₁ x₁ ≡ seen κs r₂ x₂

pub blur_determined : Determined blur-kinds.ps blur-kinds.r blur.Post (λ κs r x. answered r (lent x.0.now x.1.1.1.0.now))
blur_determined κs a r₁ r₂ x₁ x₂ h₁ h₂ = h₁ ∙ sym h₂

pub shift_determined : Determined shift_kinds.ps shift_kinds.r shift.Post (λ κs r x. answered r x.0.now)
shift_determined κs a r₁ r₂ x₁ x₂ h₁ h₂ = h₁ ∙ sym h₂

pub shadow_determined : Determined shadow-kinds.ps shadow-kinds.r shadow.Post (λ κs r x. answered r (lent_copy x.0.now x.1.1.1.0.now x.1.1.1.1.0.now))
shadow_determined κs a r₁ r₂ x₁ x₂ h₁ h₂ = h₁ ∙ sym h₂

pub check_determined : Determined check-kinds.ps check-kinds.r check.Post (λ κs r x. answered r (pointers x.1.1.1.0.now x.1.1.1.1.0.now))
check_determined κs a r₁ r₂ x₁ x₂ h₁ h₂ = h₁ ∙ sym h₂

pub view_determined : Determined view-kinds.ps view-kinds.r view.Post (λ κs r x. r)
view_determined κs a r₁ r₂ x₁ x₂ h₁ h₂ = h₁ ∙ sym h₂

pub sample_determined : Determined sample-kinds.ps sample-kinds.r sample.Post (λ κs r x. r)
sample_determined κs a r₁ r₂ x₁ x₂ h₁ h₂ = h₁ ∙ sym h₂

pub spread_determined : Determined spread-kinds.ps spread-kinds.r spread.Post (λ κs r x. answered r x.1.1.0.now)
spread_determined κs a r₁ r₂ x₁ x₂ h₁ h₂ = h₁ ∙ sym h₂

pub plate_picture_determined : Determined plate-picture-kinds.ps plate-picture-kinds.r plate-picture.Post (λ κs r x. answered r (picture_in x.1.1.0.now x.1.1.1.0.now x.1.1.1.1.0.now x.1.1.1.1.1.0.now))
plate_picture_determined κs a r₁ r₂ x₁ x₂ h₁ h₂ = h₁ ∙ sym h₂

pub plate_label_determined : Determined plate-label-kinds.ps plate-label-kinds.r plate-label.Post (λ κs r x. answered r (beside x.1.1.0.now x.1.1.1.0.now))
plate_label_determined κs a r₁ r₂ x₁ x₂ h₁ h₂ = h₁ ∙ sym h₂

pub plate_job_determined : Determined plate-job-kinds.ps plate-job-kinds.r plate-job.Post (λ κs r x. answered r (lent x.0.now x.1.0.now))
plate_job_determined κs a r₁ r₂ x₁ x₂ h₁ h₂ = h₁ ∙ sym h₂

pub plate_start_determined : Determined plate-start-kinds.ps plate-start-kinds.r plate-start.Post (λ κs r x. answered r (grown x.0.now x.1.1.0.now))
plate_start_determined κs a r₁ r₂ x₁ x₂ h₁ h₂ = h₁ ∙ sym h₂

pub plate_add_determined : Determined plate-add-kinds.ps plate-add-kinds.r plate-add.Post (λ κs r x. answered r (grown x.0.now x.1.1.1.1.1.1.1.0.now))
plate_add_determined κs a r₁ r₂ x₁ x₂ h₁ h₂ = h₁ ∙ sym h₂
