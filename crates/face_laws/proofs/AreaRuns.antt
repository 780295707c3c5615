-- Area sums for C: whatever a contract allows of one call is one, two runs that are given the same leave the same, and each contract can be met.
use mathlib.Core.Path.{◌∙◌, refl, sym}
use mathlib.Core.List.{List}
use Prim.Native.Nat.{ℕ}
use contract.Lifetimes.{Lfts}
use borrow.Fn.Kinds.{Dens}
use Rattle.picture.specs.Answer.{Answer, answered}
use Rattle.area_boxes.specs.Outcome.{box_outcome}
use Rattle.area_updates.specs.Outcome.{update_outcome}
use Rattle.area.specs.Outcome.{build_outcome}
use Rattle.face_laws.proofs.Determined.{Determined}
use Rattle.face_laws.proofs.Runs.{CanBeMet, SameRuns, same_runs}
use Rattle.face_areas.proofs.areas.corbelrush_area_box.Reads as area-box
use Rattle.face_areas.proofs.areas.corbelrush_area_box.Kinds as area-box-kinds
use Rattle.face_areas.proofs.areas.corbelrush_area_build.Reads as area-build
use Rattle.face_areas.proofs.areas.corbelrush_area_build.Kinds as area-build-kinds
use Rattle.face_areas.proofs.areas.corbelrush_area_update.Reads as area-update
use Rattle.face_areas.proofs.areas.corbelrush_area_update.Kinds as area-update-kinds

-- ---- the table of a picture
pub area_build_determined : Determined area-build-kinds.ps area-build-kinds.r area-build.Post (λ κs r x. answered r x.1.1.1.0.now)
area_build_determined κs a r₁ r₂ x₁ x₂ h₁ h₂ = h₁ ∙ sym h₂

abbrev AreaBuildGiven : Type 0
AreaBuildGiven = List ℕ × ℕ × ℕ × List ℕ

abbrev area_build_given : (κs : Lfts 2) → Dens κs area-build-kinds.ps → AreaBuildGiven
area_build_given κs a = (a.0.now, a.1.0, a.1.1.0, a.1.1.1.0.now)

abbrev area_build_leaves : AreaBuildGiven → Answer (List ℕ)
area_build_leaves g = build_outcome g.0 g.1 g.2 g.3

pub area_build_runs : SameRuns area-build-kinds.ps area-build-kinds.r area-build.Post area_build_given (λ κs r x. answered r x.1.1.1.0.now)
area_build_runs = same_runs area-build-kinds.ps area-build-kinds.r area-build.Post area_build_given _ area_build_leaves (λ κs a v x h. h)

pub area_build_met : CanBeMet area-build-kinds.ps area-build-kinds.r area-build.Post
area_build_met =
    record {
      number = λ κs a. (area_build_leaves (area_build_given κs a)).number;
      left = λ κs a. (tt, (tt, (tt, ((area_build_leaves (area_build_given κs a)).left, tt))));
      meets = λ κs a. refl;
    }

-- ---- a box
pub area_box_determined : Determined area-box-kinds.ps area-box-kinds.r area-box.Post (λ κs r x. answered r x.1.1.1.1.1.1.1.0.now)
area_box_determined κs a r₁ r₂ x₁ x₂ h₁ h₂ = h₁ ∙ sym h₂

abbrev AreaBoxGiven : Type 0
AreaBoxGiven = List ℕ × ℕ × ℕ × ℕ × ℕ × ℕ × ℕ

abbrev area_box_given : (κs : Lfts 2) → Dens κs area-box-kinds.ps → AreaBoxGiven
area_box_given κs a =
    let box = a.1.1.1 in
    (a.0.now, a.1.0, a.1.1.0, box.0, box.1.0, box.1.1.0, box.1.1.1.0)

abbrev area_box_leaves : AreaBoxGiven → Answer ℕ
area_box_leaves g = box_outcome g.0 g.1 g.2 g.3 g.4 g.5 g.6

pub area_box_runs : SameRuns area-box-kinds.ps area-box-kinds.r area-box.Post area_box_given (λ κs r x. answered r x.1.1.1.1.1.1.1.0.now)
area_box_runs = same_runs area-box-kinds.ps area-box-kinds.r area-box.Post area_box_given _ area_box_leaves (λ κs a v x h. h)

pub area_box_met : CanBeMet area-box-kinds.ps area-box-kinds.r area-box.Post
area_box_met =
    record {
      number = λ κs a. (area_box_leaves (area_box_given κs a)).number;
      left = λ κs a. (tt, (tt, (tt, (tt, (tt, (tt, (tt, ((area_box_leaves (area_box_given κs a)).left, tt))))))));
      meets = λ κs a. refl;
    }

-- ---- an update
pub area_update_determined : Determined area-update-kinds.ps area-update-kinds.r area-update.Post (λ κs r x. answered r x.0.now)
area_update_determined κs a r₁ r₂ x₁ x₂ h₁ h₂ = h₁ ∙ sym h₂

abbrev AreaUpdateGiven : Type 0
AreaUpdateGiven = List ℕ × ℕ × ℕ × ℕ × ℕ × ℕ

abbrev area_update_given : (κs : Lfts 1) → Dens κs area-update-kinds.ps → AreaUpdateGiven
area_update_given κs a = let change = a.1.1.1 in (a.0.now, a.1.0, a.1.1.0, change.0, change.1.0, change.1.1.0)

abbrev area_update_leaves : AreaUpdateGiven → Answer (List ℕ)
area_update_leaves g = update_outcome g.0 g.1 g.2 g.3 g.4 g.5

pub area_update_runs : SameRuns area-update-kinds.ps area-update-kinds.r area-update.Post area_update_given (λ κs r x. answered r x.0.now)
area_update_runs = same_runs area-update-kinds.ps area-update-kinds.r area-update.Post area_update_given _ area_update_leaves (λ κs a v x h. h)

pub area_update_met : CanBeMet area-update-kinds.ps area-update-kinds.r area-update.Post
area_update_met =
    record {
      number = λ κs a. (area_update_leaves (area_update_given κs a)).number;
      left = λ κs a. ((area_update_leaves (area_update_given κs a)).left, (tt, (tt, (tt, (tt, (tt, tt))))));
      meets = λ κs a. refl;
    }
