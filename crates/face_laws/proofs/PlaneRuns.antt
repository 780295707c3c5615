-- Four planes for C: one outcome, the same in any memory, and there is one. What a call on planes is given is what that on a picture is.
use mathlib.Core.Path.{◌≡◌, ◌∙◌, refl, sym}
use mathlib.Core.List.{List}
use Prim.Native.Nat.{ℕ}
use contract.Lifetimes.{Lfts}
use borrow.Fn.Kinds.{Out, Dens, res_t, ended_of}
use denote.Triple.Clauses.{AtExit}
use Rattle.picture.specs.Answer.{Answer, answered, Lent, lent, LentCopy, lent_copy}
use Rattle.planes.specs.Planar.{planar, interleaved}
use Rattle.planes.specs.Outcome.{converted_outcome}
use Rattle.plane_shift.specs.Shifted.{shift_planes_outcome}
use Rattle.plane_blur.specs.Outcome.{blur_planes_outcome}
use Rattle.plane_shadow.specs.Outcome.{shadow_planes_outcome}
use Rattle.face_filters.specs.Words.{flag}
use Rattle.face_laws.proofs.Determined.{Determined}
use Rattle.face_laws.proofs.Runs.{CanBeMet, SameRuns, same_runs, BlurGiven, blur_given, ShiftGiven, shift_given, ShadowGiven, shadow_given}
use Rattle.face_planes.proofs.corbelrush_to_planes.Reads as to-planes
use Rattle.face_planes.proofs.corbelrush_to_planes.Kinds as converts
use Rattle.face_planes.proofs.corbelrush_from_planes.Reads as from-planes
use Rattle.face_planes.proofs.corbelrush_blur_planes.Reads as blur-planes
use Rattle.face_planes.proofs.corbelrush_blur_planes.Kinds as blur-kinds
use Rattle.face_planes.proofs.corbelrush_shift_planes.Reads as shift-planes
use Rattle.face_planes.proofs.corbelrush_shift_planes.Kinds as shift_kinds
use Rattle.face_planes.proofs.corbelrush_shadow_planes.Reads as shadow-planes
use Rattle.face_planes.proofs.corbelrush_shadow_planes.Kinds as shadow-kinds

-- ---- converting, either way
abbrev ConvertGiven : Type 0
ConvertGiven = List ℕ × ℕ × ℕ × List ℕ

abbrev convert_given : (κs : Lfts 2) → Dens κs converts.ps → ConvertGiven
convert_given κs a = (a.0.now, a.1.0, a.1.1.0, a.1.1.1.0.now)

abbrev convert_seen : (κs : Lfts 2) → (res_t converts.r κs).Denot → AtExit (ended_of 2 converts.ps converts.r) κs → Answer (List ℕ)
convert_seen κs r x = answered r x.1.1.1.0.now

abbrev convert_leaves : (ℕ → ℕ → List ℕ → List ℕ) → ConvertGiven → Answer (List ℕ)
convert_leaves form g = converted_outcome form g.0 g.1 g.2 g.3

-- the contract of converting to a form
abbrev Converted : (ℕ → ℕ → List ℕ → List ℕ) → Out 2 converts.ps converts.r
Converted form κs a r x = convert_seen κs r x ≡ convert_leaves form (convert_given κs a)

convert_determined : (form : ℕ → ℕ → List ℕ → List ℕ) → Determined converts.ps converts.r (Converted form) convert_seen
convert_determined form κs a r₁ r₂ x₁ x₂ h₁ h₂ = h₁ ∙ sym h₂

convert_runs : (form : ℕ → ℕ → List ℕ → List ℕ) → SameRuns converts.ps converts.r (Converted form) convert_given convert_seen
convert_runs form = same_runs converts.ps converts.r (Converted form) convert_given _ (convert_leaves form) (λ κs a v x h. h)

convert_met : (form : ℕ → ℕ → List ℕ → List ℕ) → CanBeMet converts.ps converts.r (Converted form)
convert_met form =
    record {
      number = λ κs a. (convert_leaves form (convert_given κs a)).number;
      left = λ κs a. (tt, (tt, (tt, ((convert_leaves form (convert_given κs a)).left, tt))));
      meets = λ κs a. refl;
    }

pub to_planes_determined : Determined converts.ps converts.r to-planes.Post convert_seen
to_planes_determined = convert_determined planar

pub to_planes_runs : SameRuns converts.ps converts.r to-planes.Post convert_given convert_seen
to_planes_runs = convert_runs planar

pub to_planes_met : CanBeMet converts.ps converts.r to-planes.Post
to_planes_met = convert_met planar

pub from_planes_determined : Determined converts.ps converts.r from-planes.Post convert_seen
from_planes_determined = convert_determined interleaved

pub from_planes_runs : SameRuns converts.ps converts.r from-planes.Post convert_given convert_seen
from_planes_runs = convert_runs interleaved

pub from_planes_met : CanBeMet converts.ps converts.r from-planes.Post
from_planes_met = convert_met interleaved

-- ---- blur
pub blur_planes_determined : Determined blur-kinds.ps blur-kinds.r blur-planes.Post (λ κs r x. answered r (lent x.0.now x.1.1.1.0.now))
blur_planes_determined κs a r₁ r₂ x₁ x₂ h₁ h₂ = h₁ ∙ sym h₂

abbrev blur_planes_leaves : BlurGiven → Answer Lent
blur_planes_leaves g = blur_planes_outcome g.0 g.1 g.2 g.3 g.4 g.5 g.6 g.7

pub blur_planes_runs : SameRuns blur-kinds.ps blur-kinds.r blur-planes.Post blur_given (λ κs r x. answered r (lent x.0.now x.1.1.1.0.now))
blur_planes_runs = same_runs blur-kinds.ps blur-kinds.r blur-planes.Post blur_given _ blur_planes_leaves (λ κs a v x h. h)

pub blur_planes_met : CanBeMet blur-kinds.ps blur-kinds.r blur-planes.Post
blur_planes_met =
    record {
      number = λ κs a. (blur_planes_leaves (blur_given κs a)).number;
      left = λ κs a. let l = (blur_planes_leaves (blur_given κs a)).left in (l.picture, (tt, (tt, (l.scratch, (tt, (tt, (tt, (tt, tt))))))));
      meets = λ κs a. refl;
    }

-- ---- shift
pub shift_planes_determined : Determined shift_kinds.ps shift_kinds.r shift-planes.Post (λ κs r x. answered r x.0.now)
shift_planes_determined κs a r₁ r₂ x₁ x₂ h₁ h₂ = h₁ ∙ sym h₂

abbrev shift_planes_leaves : ShiftGiven → Answer (List ℕ)
shift_planes_leaves g = shift_planes_outcome g.0 g.1 g.2 g.3 g.4

pub shift_planes_runs : SameRuns shift_kinds.ps shift_kinds.r shift-planes.Post shift_given (λ κs r x. answered r x.0.now)
shift_planes_runs = same_runs shift_kinds.ps shift_kinds.r shift-planes.Post shift_given _ shift_planes_leaves (λ κs a v x h. h)

pub shift_planes_met : CanBeMet shift_kinds.ps shift_kinds.r shift-planes.Post
shift_planes_met =
    record {
      number = λ κs a. (shift_planes_leaves (shift_given κs a)).number;
      left = λ κs a. ((shift_planes_leaves (shift_given κs a)).left, (tt, (tt, (tt, (tt, tt)))));
      meets = λ κs a. refl;
    }

-- ---- shadow
pub shadow_planes_determined : Determined shadow-kinds.ps shadow-kinds.r shadow-planes.Post (λ κs r x. answered r (lent_copy x.0.now x.1.1.1.0.now x.1.1.1.1.0.now))
shadow_planes_determined κs a r₁ r₂ x₁ x₂ h₁ h₂ = h₁ ∙ sym h₂

abbrev shadow_planes_leaves : ShadowGiven → Answer LentCopy
shadow_planes_leaves g = shadow_planes_outcome g.0 g.1 g.2 g.3 g.4 g.5 g.6 g.7 g.8 (flag g.9)

pub shadow_planes_runs : SameRuns shadow-kinds.ps shadow-kinds.r shadow-planes.Post shadow_given (λ κs r x. answered r (lent_copy x.0.now x.1.1.1.0.now x.1.1.1.1.0.now))
shadow_planes_runs = same_runs shadow-kinds.ps shadow-kinds.r shadow-planes.Post shadow_given _ shadow_planes_leaves (λ κs a v x h. h)

pub shadow_planes_met : CanBeMet shadow-kinds.ps shadow-kinds.r shadow-planes.Post
shadow_planes_met =
    record {
      number = λ κs a. (shadow_planes_leaves (shadow_given κs a)).number;
      left = λ κs a.
          let l = (shadow_planes_leaves (shadow_given κs a)).left in
          (l.picture, (tt, (tt, (l.scratch, (l.copy, (tt, (tt, (tt, (tt, (tt, (tt, (tt, (tt, (tt, (tt, (tt, tt))))))))))))))));
      meets = λ κs a. refl;
    }
