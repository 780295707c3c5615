-- Refused by the first check that refuses; or the points of a place inside, where the list has room.
use mathlib.Core.Path.{◌≡◌, ◌∙◌, sym, ap}
use mathlib.Core.Bool.{Bool}
use Prim.Native.Nat.{ℕ}
use lib.ListN.{length}
use Rattle.picture.specs.Answer.{settled}
use Rattle.picture.specs.Refusal.{number, number_of, first_of}
use Rattle.std.proofs.lemmas.Result.{err_from_is_err_and}
use Rattle.picture.proofs.Refused.{number_some, call_refused, group_refuses}
use Rattle.share_checks.specs.Checks.{place_outside, share_checks}
use Rattle.share_lists.specs.Listing.{points_left, points_of, full_checks, list_done, list_outcome}
use Rattle.share_checks.proofs.Accepted.{right, not_outside, asked, first_passed}
use Rattle.share_lists.proofs.listing.list.Goals as goal
use Rattle.share_lists.proofs.listing.list.Goals.{In_ok-check_share}

-- none of the checks has refused
passed : (c : In_ok-check_share) → let a = c.args in
    0 ≡ first_of (share_checks a.w a.h a.numerators.now a.n a.edge (place_outside a.w a.h a.out_place))
unfolding number_of
passed c =
    let a = c.args in
    c.in_ok-check_share.ensures ∙ ap (λ (b : Bool). first_of (share_checks a.w a.h a.numerators.now a.n a.edge b)) c.place_outside-outside.ensures

pub full_size-requires : goal.full_size-requires
full_size-requires c =
    let a = c.args in
    right a.w a.h a.numerators.now a.n a.edge (place_outside a.w a.h a.out_place) (passed (goal.at.full_size-requires c).In_ok-check_share)

pub list_points-requires : goal.list_points-requires
list_points-requires c =
    let a = c.args in
    let out = place_outside a.w a.h a.out_place in
    let none = passed (goal.at.list_points-requires c).In_ok-check_share in
    rw c.full_size.ensures
    (asked a.w a.h a.numerators.now a.n a.edge out none a.out_place (not_outside a.w a.h a.numerators.now a.n a.edge out none))

pub returns-in_err-check_share : goal.returns-in_err-check_share
unfolding list_outcome number_of
returns-in_err-check_share c =
    let a = c.args in
    let r = c.in_err-check_share.field-0.0 in
    let points = points_of a.w a.h a.numerators.now a.n a.edge a.out_place in
    let e = c.in_err-check_share.ensures ∙ ap (λ (b : Bool). first_of (share_checks a.w a.h a.numerators.now a.n a.edge b)) c.place_outside-outside.ensures in
    let p = err_from_is_err_and c.from_residual.result c.from_residual.ensures.1 in
    rw (p.1, p.2)
    (call_refused r _ (points_left a.list.now 0) (list_done points a.list.now)
    (group_refuses (share_checks a.w a.h a.numerators.now a.n a.edge (place_outside a.w a.h a.out_place)) (full_checks (length a.list.now) points) (number r) (number_some r) e))

pub returns : goal.returns
unfolding list_outcome
returns c =
    let a = c.args in
    let points = points_of a.w a.h a.numerators.now a.n a.edge a.out_place in
    let none = passed (goal.at.returns c).In_ok-check_share in
    (rw (c.full_size.ensures, c.edge_mode.ensures) at c.list_points.ensures)
    ∙ ap (λ (k : ℕ). settled k (points_left a.list.now 0) (list_done points a.list.now))
    (sym (first_passed a.w a.h a.numerators.now a.n a.edge (place_outside a.w a.h a.out_place) none (full_checks (length a.list.now) points)))
