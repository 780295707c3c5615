-- Shares for C: one outcome, the same in any memory, and there is one.
use mathlib.Core.Path.{◌≡◌, ◌∙◌, refl, sym}
use mathlib.Core.List.{List}
use Prim.Native.Nat.{ℕ}
use contract.Lifetimes.{Lfts}
use borrow.Fn.Kinds.{Dens}
use Rattle.picture.specs.Answer.{Answer, answered}
use Rattle.shares.specs.Outcome.{share_outcome}
use Rattle.share_lists.specs.Listing.{PointsLeft, points_left, list_outcome}
use Rattle.face_laws.proofs.Determined.{Determined}
use Rattle.face_laws.proofs.Runs.{SameRuns, same_runs, CanBeMet}
use Rattle.face_shares.proofs.explains.corbelrush_share.Reads as share
use Rattle.face_shares.proofs.explains.corbelrush_share.Kinds as share-kinds
use Rattle.face_shares.proofs.explains.corbelrush_shares.Reads as shares
use Rattle.face_shares.proofs.explains.corbelrush_shares.Kinds as shares-kinds

-- ---- one share
pub share_determined : Determined share-kinds.ps share-kinds.r share.Post (λ κs r x. answered r x.1.1.1.1.1.1.1.0.now)
share_determined κs a r₁ r₂ x₁ x₂ h₁ h₂ = h₁ ∙ sym h₂

abbrev ShareGiven : Type 0
ShareGiven = ℕ × ℕ × List ℕ × ℕ × ℕ × ℕ × ℕ

abbrev share_given : (κs : Lfts 2) → Dens κs share-kinds.ps → ShareGiven
share_given κs a = let rest = a.1.1.1 in (a.0, a.1.0, a.1.1.0.now, rest.0, rest.1.0, rest.1.1.0, rest.1.1.1.0)

abbrev share_leaves : ShareGiven → Answer ℕ
share_leaves g = share_outcome g.0 g.1 g.2 g.3 g.4 g.5 g.6

pub share_runs : SameRuns share-kinds.ps share-kinds.r share.Post share_given (λ κs r x. answered r x.1.1.1.1.1.1.1.0.now)
share_runs = same_runs share-kinds.ps share-kinds.r share.Post share_given _ share_leaves (λ κs a v x h. h)

pub share_met : CanBeMet share-kinds.ps share-kinds.r share.Post
share_met =
    record {
      number = λ κs a. (share_leaves (share_given κs a)).number;
      left = λ κs a. (tt, (tt, (tt, (tt, (tt, (tt, (tt, ((share_leaves (share_given κs a)).left, tt))))))));
      meets = λ κs a. refl;
    }

-- ---- a listing
pub shares_determined : Determined shares-kinds.ps shares-kinds.r shares.Post (λ κs r x. let rest = x.1.1.1.1.1.1 in answered r (points_left rest.0.now rest.1.0.now))
shares_determined κs a r₁ r₂ x₁ x₂ h₁ h₂ = h₁ ∙ sym h₂

abbrev SharesGiven : Type 0
SharesGiven = ℕ × ℕ × List ℕ × ℕ × ℕ × ℕ × List (List ℕ)

abbrev shares_given : (κs : Lfts 3) → Dens κs shares-kinds.ps → SharesGiven
shares_given κs a = let rest = a.1.1.1 in (a.0, a.1.0, a.1.1.0.now, rest.0, rest.1.0, rest.1.1.0, rest.1.1.1.0.now)

abbrev shares_leaves : SharesGiven → Answer PointsLeft
shares_leaves g = list_outcome g.0 g.1 g.2 g.3 g.4 g.5 g.6

pub shares_runs : SameRuns shares-kinds.ps shares-kinds.r shares.Post shares_given (λ κs r x. let rest = x.1.1.1.1.1.1 in answered r (points_left rest.0.now rest.1.0.now))
shares_runs = same_runs shares-kinds.ps shares-kinds.r shares.Post shares_given _ shares_leaves (λ κs a v x h. h)

pub shares_met : CanBeMet shares-kinds.ps shares-kinds.r shares.Post
shares_met =
    record {
      number = λ κs a. (shares_leaves (shares_given κs a)).number;
      left = λ κs a. let l = (shares_leaves (shares_given κs a)).left in (tt, (tt, (tt, (tt, (tt, (tt, (l.list, (l.count, tt))))))));
      meets = λ κs a. refl;
    }
