-- The blur in whole numbers for C: one outcome, the same in any memory, and there is one.
use mathlib.Core.Path.{◌≡◌, ◌∙◌, refl, sym}
use mathlib.Core.List.{List}
use Prim.Native.Nat.{ℕ}
use contract.Lifetimes.{Lfts}
use borrow.Fn.Kinds.{Dens}
use Rattle.picture.specs.Answer.{Answer, answered, Lent, lent}
use Rattle.whole_blur.specs.Outcome.{whole_outcome}
use Rattle.face_filters.proofs.wholes.corbelrush_blur_whole.Reads as whole
use Rattle.face_filters.proofs.wholes.corbelrush_blur_whole.Kinds as kinds
use Rattle.face_laws.proofs.Determined.{Determined}
use Rattle.face_laws.proofs.Runs.{SameRuns, same_runs, CanBeMet}

pub whole_determined : Determined kinds.ps kinds.r whole.Post (λ κs r x. answered r (lent x.0.now x.1.1.1.0.now))
whole_determined κs a r₁ r₂ x₁ x₂ h₁ h₂ = h₁ ∙ sym h₂

abbrev WholeGiven : Type 0
WholeGiven = List ℕ × ℕ × ℕ × List ℕ × List ℕ × ℕ × ℕ

abbrev whole_given : (κs : Lfts 3) → Dens κs kinds.ps → WholeGiven
whole_given κs a = let rest = a.1.1.1 in (a.0.now, a.1.0, a.1.1.0, rest.0.now, rest.1.0.now, rest.1.1.0, rest.1.1.1.0)

abbrev whole_leaves : WholeGiven → Answer Lent
whole_leaves g = whole_outcome g.0 g.1 g.2 g.3 g.4 g.5 g.6

pub whole_runs : SameRuns kinds.ps kinds.r whole.Post whole_given (λ κs r x. answered r (lent x.0.now x.1.1.1.0.now))
whole_runs = same_runs kinds.ps kinds.r whole.Post whole_given _ whole_leaves (λ κs a v x h. h)

pub whole_met : CanBeMet kinds.ps kinds.r whole.Post
whole_met =
    record {
      number = λ κs a. (whole_leaves (whole_given κs a)).number;
      left = λ κs a. let l = (whole_leaves (whole_given κs a)).left in (l.picture, (tt, (tt, (l.scratch, (tt, (tt, (tt, tt)))))));
      meets = λ κs a. refl;
    }
