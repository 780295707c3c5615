-- Mending for C: whatever a contract allows of one call is one, two runs that are given the same leave the same, and each contract can be met.
use mathlib.Core.Path.{◌∙◌, refl, sym}
use mathlib.Core.List.{List}
use Prim.Native.Nat.{ℕ}
use contract.Lifetimes.{Lfts}
use borrow.Fn.Kinds.{Dens}
use Rattle.picture.specs.Answer.{Answer, answered}
use Rattle.face_laws.proofs.Determined.{Determined}
use Rattle.face_laws.proofs.Runs.{CanBeMet, SameRuns, same_runs}
use Rattle.rebuilding.specs.Outcome.{rebuild_outcome}
use Rattle.mending.specs.Outcome.{MendLeft, mend_left, mend_outcome}
use Rattle.face_grades.proofs.mends.corbelrush_mend.Reads as mend
use Rattle.face_grades.proofs.mends.corbelrush_mend.Kinds as mend-kinds
use Rattle.face_grades.proofs.mends.corbelrush_rebuild.Reads as rebuild
use Rattle.face_grades.proofs.mends.corbelrush_rebuild.Kinds as rebuild-kinds

-- ---- mend
pub mend_determined : Determined mend-kinds.ps mend-kinds.r mend.Post (λ κs r x. answered r (mend_left x.0.now x.1.1.1.0.now x.1.1.1.1.0.now))
mend_determined κs a r₁ r₂ x₁ x₂ h₁ h₂ = h₁ ∙ sym h₂

abbrev MendGiven : Type 0
MendGiven = List ℕ × ℕ × ℕ × List (List ℕ)

abbrev mend_given : (κs : Lfts 3) → Dens κs mend-kinds.ps → MendGiven
mend_given κs a = (a.0.now, a.1.0, a.1.1.0, a.1.1.1.0.now)

abbrev mend_leaves : MendGiven → Answer MendLeft
mend_leaves g = mend_outcome g.0 g.1 g.2 g.3

pub mend_runs : SameRuns mend-kinds.ps mend-kinds.r mend.Post mend_given (λ κs r x. answered r (mend_left x.0.now x.1.1.1.0.now x.1.1.1.1.0.now))
mend_runs = same_runs mend-kinds.ps mend-kinds.r mend.Post mend_given _ mend_leaves (λ κs a v x h. h)

pub mend_met : CanBeMet mend-kinds.ps mend-kinds.r mend.Post
mend_met =
    record {
      number = λ κs a. (mend_leaves (mend_given κs a)).number;
      left = λ κs a. let l = (mend_leaves (mend_given κs a)).left in (l.picture, (tt, (tt, (l.list, (l.count, tt)))));
      meets = λ κs a. refl;
    }

-- ---- rebuild
pub rebuild_determined : Determined rebuild-kinds.ps rebuild-kinds.r rebuild.Post (λ κs r x. answered r x.0.now)
rebuild_determined κs a r₁ r₂ x₁ x₂ h₁ h₂ = h₁ ∙ sym h₂

abbrev RebuildGiven : Type 0
RebuildGiven = List ℕ × ℕ × ℕ × List (List ℕ)

abbrev rebuild_given : (κs : Lfts 2) → Dens κs rebuild-kinds.ps → RebuildGiven
rebuild_given κs a = (a.0.now, a.1.0, a.1.1.0, a.1.1.1.0.now)

abbrev rebuild_leaves : RebuildGiven → Answer (List ℕ)
rebuild_leaves g = rebuild_outcome g.0 g.1 g.2 g.3

pub rebuild_runs : SameRuns rebuild-kinds.ps rebuild-kinds.r rebuild.Post rebuild_given (λ κs r x. answered r x.0.now)
rebuild_runs = same_runs rebuild-kinds.ps rebuild-kinds.r rebuild.Post rebuild_given _ rebuild_leaves (λ κs a v x h. h)

pub rebuild_met : CanBeMet rebuild-kinds.ps rebuild-kinds.r rebuild.Post
rebuild_met =
    record {
      number = λ κs a. (rebuild_leaves (rebuild_given κs a)).number;
      left = λ κs a. ((rebuild_leaves (rebuild_given κs a)).left, (tt, (tt, (tt, tt))));
      meets = λ κs a. refl;
    }
