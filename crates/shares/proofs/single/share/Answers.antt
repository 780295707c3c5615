-- A place inside, past the checks, has its share.
use mathlib.Core.Path.{◌≡◌, ◌∙◌, sym, ap}
use mathlib.Core.Bool.{Bool, ◌||◌}
use Rattle.picture.specs.Answer.{answered}
use Rattle.picture.specs.Modes.{mode_of}
use Rattle.picture.specs.Refusal.{number_of, first_of}
use Rattle.picture.proofs.Tests.{neither}
use Rattle.picture.proofs.Answers.{done}
use Rattle.share_laws.specs.Share.{share_at}
use Rattle.share_checks.specs.Checks.{place_outside, share_checks}
use Rattle.shares.specs.Outcome.{share_outcome}
use Rattle.share_checks.proofs.Accepted.{inside, right, not_outside, asked}
use Rattle.shares.proofs.single.share.Goals as goal
use Rattle.shares.proofs.single.share.Goals.{In_ok-check_share}

-- none of the checks has refused
passed : (c : In_ok-check_share) → let a = c.args in
    0 ≡ first_of (share_checks a.w a.h a.numerators.now a.n a.edge (place_outside a.w a.h a.out_place || place_outside a.w a.h a.in_place))
unfolding number_of
passed c =
    let a = c.args in
    c.in_ok-check_share.ensures ∙ ap (λ (b : Bool). first_of (share_checks a.w a.h a.numerators.now a.n a.edge b)) c.either_outside-outside.ensures

pub full_size-requires : goal.full_size-requires
full_size-requires c =
    let a = c.args in
    right a.w a.h a.numerators.now a.n a.edge (place_outside a.w a.h a.out_place || place_outside a.w a.h a.in_place) (passed (goal.at.full_size-requires c).In_ok-check_share)

pub share_of-requires : goal.share_of-requires
share_of-requires c =
    let a = c.args in
    let out = place_outside a.w a.h a.out_place in
    let place = place_outside a.w a.h a.in_place in
    let none = passed (goal.at.share_of-requires c).In_ok-check_share in
    let two = neither out place (not_outside a.w a.h a.numerators.now a.n a.edge (out || place) none) in
    rw c.full_size.ensures
    (record { fact_1 = asked a.w a.h a.numerators.now a.n a.edge (out || place) none a.out_place two.0; fact_2 = inside a.w a.h a.in_place two.1 })

pub returns : goal.returns
unfolding share_outcome
returns c =
    let a = c.args in
    ap (answered 0) (c.share_of.ensures ∙ rw (c.full_size.ensures, c.edge_mode.ensures))
    ∙ done _ 0 (share_at (mode_of a.edge) a.numerators.now a.n a.w a.h a.out_place a.in_place) (sym (passed (goal.at.returns c).In_ok-check_share))
