-- Two runs of a function for C in different memory that are given the same leave the same; and each contract can be met:
-- for all arguments there are a number and last values that satisfy it.
use mathlib.Core.Path.{◌≡◌, ◌∙◌, refl, sym, ap}
use mathlib.Core.List.{List}
use Prim.Native.Nat.{ℕ}
use contract.Lifetimes.{Lfts}
use borrow.Fn.Kinds.{ParamKind, ResultKind, Out, Dens, res_t, ended_of}
use denote.Triple.Clauses.{Lasts, AtExit, at_exit}
use lib.IntN.{ℤ}
use lib.Ieee.{Float}
use Rattle.picture.specs.Answer.{Answer, answered, Lent, lent, LentCopy, lent_copy}
use Rattle.gaussian_blur.specs.Outcome as blurring
use Rattle.shift.specs.Outcome as shifting
use Rattle.drop_shadow.specs.Outcome as shadowing
use Rattle.drop_shadow.specs.declared.Recipe.{Recipe}
use Rattle.grading.specs.Premultiplied.{checked}
use Rattle.grading.specs.Sampling.{view_refusal, sampled}
use Rattle.spread.specs.Spread.{reported}
use Rattle.plate.specs.Lookup.{Picture, looked_up, Beside, beside, labelled_up}
use Rattle.plate_empty.specs.Outcome.{Grown, grown, start_outcome}
use Rattle.plate_write.specs.Outcome.{add_outcome}
use Rattle.body_blur.specs.Blur.{plate_blur}
use Rattle.job.specs.Job as job
use Rattle.face_filters.specs.Words.{recipe, flag}
use Rattle.face_grades.specs.Words.{reworded, Pointers, pointers, finding_in}
use Rattle.face_files.specs.Words.{picture_in}
use Rattle.pixels.specs.Pixels.{packed}
use Rattle.face_filters.proofs.filters.corbelrush_blur.Reads as blur
use Rattle.face_filters.proofs.filters.corbelrush_blur.Kinds as blur-kinds
use Rattle.face_filters.proofs.filters.corbelrush_shift.Reads as shift
use Rattle.face_filters.proofs.filters.corbelrush_shift.Kinds as shift_kinds
use Rattle.face_filters.proofs.filters.corbelrush_shadow.Reads as shadow
use Rattle.face_filters.proofs.filters.corbelrush_shadow.Kinds as shadow-kinds
use Rattle.face_grades.proofs.grades.corbelrush_check.Reads as check
use Rattle.face_grades.proofs.grades.corbelrush_check.Kinds as check-kinds
use Rattle.face_grades.proofs.grades.corbelrush_view.Reads as view
use Rattle.face_grades.proofs.grades.corbelrush_view.Kinds as view-kinds
use Rattle.face_grades.proofs.grades.corbelrush_sample.Reads as sample
use Rattle.face_grades.proofs.grades.corbelrush_sample.Kinds as sample-kinds
use Rattle.face_grades.proofs.grades.corbelrush_spread.Reads as spread
use Rattle.face_grades.proofs.grades.corbelrush_spread.Kinds as spread-kinds
use Rattle.face_files.proofs.plates.corbelrush_plate_picture.Reads as plate-picture
use Rattle.face_files.proofs.plates.corbelrush_plate_picture.Kinds as plate-picture-kinds
use Rattle.face_files.proofs.plates.corbelrush_plate_label.Reads as plate-label
use Rattle.face_files.proofs.plates.corbelrush_plate_label.Kinds as plate-label-kinds
use Rattle.face_files.proofs.plates.corbelrush_plate_job.Reads as plate-job
use Rattle.face_files.proofs.plates.corbelrush_plate_job.Kinds as plate-job-kinds
use Rattle.face_files.proofs.plates.corbelrush_plate_start.Reads as plate-start
use Rattle.face_files.proofs.plates.corbelrush_plate_start.Kinds as plate-start-kinds
use Rattle.face_files.proofs.plates.corbelrush_plate_add.Reads as plate-add
use Rattle.face_files.proofs.plates.corbelrush_plate_add.Kinds as plate-add-kinds

module _ {n : ℕ} (ps : List (ParamKind n)) (r : ResultKind n) (Post : Out n ps r) where
  pub record CanBeMet : Type 0 where
    pub number : (κs : Lfts n) → Dens κs ps → (res_t r κs).Denot
    pub left : (κs : Lfts n) (a : Dens κs ps) → Lasts (ended_of n ps r) κs a
    pub meets : (κs : Lfts n) (a : Dens κs ps) → Post κs a (number κs a) (at_exit (ended_of n ps r) κs a (left κs a))

  -- `given` is what a call is given: numbers, and what is behind each pointer that it reads; `seen` is what C sees of it afterwards
  module _ {G B : Type 0} (given : (κs : Lfts n) → Dens κs ps → G) (seen : (κs : Lfts n) → (res_t r κs).Denot → AtExit (ended_of n ps r) κs → B) where
    abbrev pub SameRuns : Type 0
    SameRuns =
        (κ₁ κ₂ : Lfts n) (a₁ : Dens κ₁ ps) (a₂ : Dens κ₂ ps) → given κ₁ a₁ ≡ given κ₂ a₂ →
        (r₁ : (res_t r κ₁).Denot) (r₂ : (res_t r κ₂).Denot) (x₁ : AtExit (ended_of n ps r) κ₁) (x₂ : AtExit (ended_of n ps r) κ₂) →
        Post κ₁ a₁ r₁ x₁ → Post κ₂ a₂ r₂ x₂ → seen κ₁ r₁ x₁ ≡ seen κ₂ r₂ x₂

    -- a contract that is an equation between what is seen and a definition of what is given
    pub same_runs : (outcome : G → B) → ((κs : Lfts n) (a : Dens κs ps) (v : (res_t r κs).Denot) (x : AtExit (ended_of n ps r) κs) → Post κs a v x → seen κs v x ≡ outcome (given κs a)) → SameRuns
    same_runs outcome is κ₁ κ₂ a₁ a₂ e r₁ r₂ x₁ x₂ h₁ h₂ = is κ₁ a₁ r₁ x₁ h₁ ∙ ap outcome e ∙ sym (is κ₂ a₂ r₂ x₂ h₂)

-- ---- blur
abbrev pub BlurGiven : Type 0
BlurGiven = List ℕ × ℕ × ℕ × List ℕ × List Float × ℕ × Float × ℕ

abbrev pub blur_given : (κs : Lfts 3) → Dens κs blur-kinds.ps → BlurGiven
blur_given κs a =
    let rest = a.1.1.1 in
    (a.0.now, a.1.0, a.1.1.0, rest.0.now, rest.1.0.now, rest.1.1.0, rest.1.1.1.0, rest.1.1.1.1.0)

abbrev blur_leaves : BlurGiven → Answer Lent
blur_leaves g = blurring.blur_outcome g.0 g.1 g.2 g.3 g.4 g.5 g.6 g.7

pub blur_runs : SameRuns blur-kinds.ps blur-kinds.r blur.Post blur_given (λ κs r x. answered r (lent x.0.now x.1.1.1.0.now))
blur_runs = same_runs blur-kinds.ps blur-kinds.r blur.Post blur_given _ blur_leaves (λ κs a v x h. h)

pub blur_met : CanBeMet blur-kinds.ps blur-kinds.r blur.Post
blur_met =
    record {
      number = λ κs a. (blur_leaves (blur_given κs a)).number;
      left = λ κs a. let l = (blur_leaves (blur_given κs a)).left in (l.picture, (tt, (tt, (l.scratch, (tt, (tt, (tt, (tt, tt))))))));
      meets = λ κs a. refl;
    }

-- ---- shift
abbrev pub ShiftGiven : Type 0
ShiftGiven = List ℕ × ℕ × ℕ × Float × Float

abbrev pub shift_given : (κs : Lfts 1) → Dens κs shift_kinds.ps → ShiftGiven
shift_given κs a = (a.0.now, a.1.0, a.1.1.0, a.1.1.1.0, a.1.1.1.1.0)

abbrev shift_leaves : ShiftGiven → Answer (List ℕ)
shift_leaves g = shifting.shift_outcome g.0 g.1 g.2 g.3 g.4

pub shift_runs : SameRuns shift_kinds.ps shift_kinds.r shift.Post shift_given (λ κs r x. answered r x.0.now)
shift_runs = same_runs shift_kinds.ps shift_kinds.r shift.Post shift_given _ shift_leaves (λ κs a v x h. h)

pub shift_met : CanBeMet shift_kinds.ps shift_kinds.r shift.Post
shift_met =
    record {
      number = λ κs a. (shift_leaves (shift_given κs a)).number;
      left = λ κs a. ((shift_leaves (shift_given κs a)).left, (tt, (tt, (tt, (tt, tt)))));
      meets = λ κs a. refl;
    }

-- ---- shadow
abbrev pub ShadowGiven : Type 0
ShadowGiven = List ℕ × ℕ × ℕ × List ℕ × List ℕ × List Float × ℕ × ℕ × Recipe × ℕ

abbrev pub shadow_given : (κs : Lfts 4) → Dens κs shadow-kinds.ps → ShadowGiven
shadow_given κs a =
    let rest = a.1.1.1 in
    let given = rest.1.1.1.1.1 in
    let colour = given.1.1.1 in
    (a.0.now, a.1.0, a.1.1.0, rest.0.now, rest.1.0.now, rest.1.1.0.now, rest.1.1.1.0, rest.1.1.1.1.0, recipe given.0 given.1.0 given.1.1.0 colour.0 colour.1.0 colour.1.1.0 colour.1.1.1.0, colour.1.1.1.1.0)

abbrev shadow_leaves : ShadowGiven → Answer LentCopy
shadow_leaves g = shadowing.shadow_outcome g.0 g.1 g.2 g.3 g.4 g.5 g.6 g.7 g.8 (flag g.9)

pub shadow_runs : SameRuns shadow-kinds.ps shadow-kinds.r shadow.Post shadow_given (λ κs r x. answered r (lent_copy x.0.now x.1.1.1.0.now x.1.1.1.1.0.now))
shadow_runs = same_runs shadow-kinds.ps shadow-kinds.r shadow.Post shadow_given _ shadow_leaves (λ κs a v x h. h)

pub shadow_met : CanBeMet shadow-kinds.ps shadow-kinds.r shadow.Post
shadow_met =
    record {
      number = λ κs a. (shadow_leaves (shadow_given κs a)).number;
      left = λ κs a.
          let l = (shadow_leaves (shadow_given κs a)).left in
          (l.picture, (tt, (tt, (l.scratch, (l.copy, (tt, (tt, (tt, (tt, (tt, (tt, (tt, (tt, (tt, (tt, (tt, tt))))))))))))))));
      meets = λ κs a. refl;
    }

-- ---- check
abbrev CheckGiven : Type 0
CheckGiven = List ℕ × ℕ × ℕ

abbrev check_given : (κs : Lfts 3) → Dens κs check-kinds.ps → CheckGiven
check_given κs a = (a.0.now, a.1.0, a.1.1.0)

abbrev check_leaves : CheckGiven → Answer Pointers
check_leaves g = reworded finding_in (checked g.0 g.1 g.2)

pub check_runs : SameRuns check-kinds.ps check-kinds.r check.Post check_given (λ κs r x. answered r (pointers x.1.1.1.0.now x.1.1.1.1.0.now))
check_runs = same_runs check-kinds.ps check-kinds.r check.Post check_given _ check_leaves (λ κs a v x h. h)

pub check_met : CanBeMet check-kinds.ps check-kinds.r check.Post
check_met =
    record {
      number = λ κs a. (check_leaves (check_given κs a)).number;
      left = λ κs a. let l = (check_leaves (check_given κs a)).left in (tt, (tt, (tt, (l.found, (l.place, tt)))));
      meets = λ κs a. refl;
    }

-- ---- view
abbrev ViewGiven : Type 0
ViewGiven = List ℕ × ℕ × ℕ × ℕ

abbrev view_given : (κs : Lfts 1) → Dens κs view-kinds.ps → ViewGiven
view_given κs a = (a.0.now, a.1.0, a.1.1.0, a.1.1.1.0)

abbrev view_number : ViewGiven → ℕ
view_number g = view_refusal g.0 g.1 g.2 g.3

pub view_runs : SameRuns view-kinds.ps view-kinds.r view.Post view_given (λ κs r x. r)
view_runs = same_runs view-kinds.ps view-kinds.r view.Post view_given _ view_number (λ κs a v x h. h)

pub view_met : CanBeMet view-kinds.ps view-kinds.r view.Post
view_met =
    record { number = λ κs a. view_number (view_given κs a); left = λ κs a. (tt, (tt, (tt, (tt, tt)))); meets = λ κs a. refl }

-- ---- sample
abbrev SampleGiven : Type 0
SampleGiven = List ℕ × ℕ × ℕ × ℕ × ℤ × ℤ

abbrev sample_given : (κs : Lfts 1) → Dens κs sample-kinds.ps → SampleGiven
sample_given κs a = (a.0.now, a.1.0, a.1.1.0, a.1.1.1.0, a.1.1.1.1.0, a.1.1.1.1.1.0)

abbrev sample_number : SampleGiven → ℕ
sample_number g = packed (sampled g.0 g.1 g.2 g.3 g.4 g.5)

pub sample_runs : SameRuns sample-kinds.ps sample-kinds.r sample.Post sample_given (λ κs r x. r)
sample_runs = same_runs sample-kinds.ps sample-kinds.r sample.Post sample_given _ sample_number (λ κs a v x h. h)

pub sample_met : CanBeMet sample-kinds.ps sample-kinds.r sample.Post
sample_met =
    record { number = λ κs a. sample_number (sample_given κs a); left = λ κs a. (tt, (tt, (tt, (tt, (tt, (tt, tt)))))); meets = λ κs a. refl }

-- ---- spread
abbrev SpreadGiven : Type 0
SpreadGiven = List Float × ℕ

abbrev spread_given : (κs : Lfts 2) → Dens κs spread-kinds.ps → SpreadGiven
spread_given κs a = (a.0.now, a.1.0)

abbrev spread_leaves : SpreadGiven → Answer ℕ
spread_leaves g = reported g.0 g.1

pub spread_runs : SameRuns spread-kinds.ps spread-kinds.r spread.Post spread_given (λ κs r x. answered r x.1.1.0.now)
spread_runs = same_runs spread-kinds.ps spread-kinds.r spread.Post spread_given _ spread_leaves (λ κs a v x h. h)

pub spread_met : CanBeMet spread-kinds.ps spread-kinds.r spread.Post
spread_met =
    record {
      number = λ κs a. (spread_leaves (spread_given κs a)).number;
      left = λ κs a. (tt, (tt, ((spread_leaves (spread_given κs a)).left, tt)));
      meets = λ κs a. refl;
    }

-- ---- picture of a plate
abbrev LookupGiven : Type 0
LookupGiven = List ℕ × ℕ

abbrev lookup_given : (κs : Lfts 5) → Dens κs plate-picture-kinds.ps → LookupGiven
lookup_given κs a = (a.0.now, a.1.0)

abbrev lookup_leaves : LookupGiven → Answer Picture
lookup_leaves g = looked_up g.0 g.1

pub plate_picture_runs : SameRuns plate-picture-kinds.ps plate-picture-kinds.r plate-picture.Post lookup_given (λ κs r x. answered r (picture_in x.1.1.0.now x.1.1.1.0.now x.1.1.1.1.0.now x.1.1.1.1.1.0.now))
plate_picture_runs = same_runs plate-picture-kinds.ps plate-picture-kinds.r plate-picture.Post lookup_given _ lookup_leaves (λ κs a v x h. h)

pub plate_picture_met : CanBeMet plate-picture-kinds.ps plate-picture-kinds.r plate-picture.Post
plate_picture_met =
    record {
      number = λ κs a. (lookup_leaves (lookup_given κs a)).number;
      left = λ κs a. let l = (lookup_leaves (lookup_given κs a)).left in (tt, (tt, (l.width, (l.height, (l.offset, (l.length, tt))))));
      meets = λ κs a. refl;
    }

-- ---- label of a picture of a plate
abbrev label_leaves : LookupGiven → Answer Beside
label_leaves g = labelled_up g.0 g.1

abbrev label_given : (κs : Lfts 3) → Dens κs plate-label-kinds.ps → LookupGiven
label_given κs a = (a.0.now, a.1.0)

pub plate_label_runs : SameRuns plate-label-kinds.ps plate-label-kinds.r plate-label.Post label_given (λ κs r x. answered r (beside x.1.1.0.now x.1.1.1.0.now))
plate_label_runs = same_runs plate-label-kinds.ps plate-label-kinds.r plate-label.Post label_given _ label_leaves (λ κs a v x h. h)

pub plate_label_met : CanBeMet plate-label-kinds.ps plate-label-kinds.r plate-label.Post
plate_label_met =
    record {
      number = λ κs a. (label_leaves (label_given κs a)).number;
      left = λ κs a. let l = (label_leaves (label_given κs a)).left in (tt, (tt, (l.unit, (l.sheet, tt))));
      meets = λ κs a. refl;
    }

-- ---- plate job
abbrev JobGiven : Type 0
JobGiven = List ℕ × List ℕ

abbrev job_given : (κs : Lfts 2) → Dens κs plate-job-kinds.ps → JobGiven
job_given κs a = (a.0.now, a.1.0.now)

abbrev job_leaves : JobGiven → Answer Lent
job_leaves g = job.job_outcome plate_blur g.0 g.1

pub plate_job_runs : SameRuns plate-job-kinds.ps plate-job-kinds.r plate-job.Post job_given (λ κs r x. answered r (lent x.0.now x.1.0.now))
plate_job_runs = same_runs plate-job-kinds.ps plate-job-kinds.r plate-job.Post job_given _ job_leaves (λ κs a v x h. h)

pub plate_job_met : CanBeMet plate-job-kinds.ps plate-job-kinds.r plate-job.Post
plate_job_met =
    record {
      number = λ κs a. (job_leaves (job_given κs a)).number;
      left = λ κs a. let l = (job_leaves (job_given κs a)).left in (l.picture, (l.scratch, tt));
      meets = λ κs a. refl;
    }

-- ---- starting a plate
abbrev StartGiven : Type 0
StartGiven = List ℕ × ℕ

abbrev start_given : (κs : Lfts 2) → Dens κs plate-start-kinds.ps → StartGiven
start_given κs a = (a.0.now, a.1.0)

abbrev start_leaves : StartGiven → Answer Grown
start_leaves g = start_outcome g.0 g.1

pub plate_start_runs : SameRuns plate-start-kinds.ps plate-start-kinds.r plate-start.Post start_given (λ κs r x. answered r (grown x.0.now x.1.1.0.now))
plate_start_runs = same_runs plate-start-kinds.ps plate-start-kinds.r plate-start.Post start_given _ start_leaves (λ κs a v x h. h)

pub plate_start_met : CanBeMet plate-start-kinds.ps plate-start-kinds.r plate-start.Post
plate_start_met =
    record {
      number = λ κs a. (start_leaves (start_given κs a)).number;
      left = λ κs a. let l = (start_leaves (start_given κs a)).left in (l.buffer, (tt, (l.used, tt)));
      meets = λ κs a. refl;
    }

-- ---- adding a picture to a plate
abbrev AddGiven : Type 0
AddGiven = List ℕ × ℕ × List ℕ × ℕ × ℕ × ℕ × ℕ

abbrev add_given : (κs : Lfts 3) → Dens κs plate-add-kinds.ps → AddGiven
add_given κs a = (a.0.now, a.1.0, a.1.1.0.now, a.1.1.1.0, a.1.1.1.1.0, a.1.1.1.1.1.0, a.1.1.1.1.1.1.0)

abbrev add_leaves : AddGiven → Answer Grown
add_leaves g = add_outcome g.0 g.1 g.2 g.3 g.4 (beside g.5 g.6)

pub plate_add_runs : SameRuns plate-add-kinds.ps plate-add-kinds.r plate-add.Post add_given (λ κs r x. answered r (grown x.0.now x.1.1.1.1.1.1.1.0.now))
plate_add_runs = same_runs plate-add-kinds.ps plate-add-kinds.r plate-add.Post add_given _ add_leaves (λ κs a v x h. h)

pub plate_add_met : CanBeMet plate-add-kinds.ps plate-add-kinds.r plate-add.Post
plate_add_met =
    record {
      number = λ κs a. (add_leaves (add_given κs a)).number;
      left = λ κs a. let l = (add_leaves (add_given κs a)).left in (l.buffer, (tt, (tt, (tt, (tt, (tt, (tt, (l.used, tt))))))));
      meets = λ κs a. refl;
    }
