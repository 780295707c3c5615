-- Refused, or the work of an accepted call.
use mathlib.Core.Path.{sym}
use Rattle.std.proofs.lemmas.Result.{err_from_is_err_and}
use Rattle.picture.specs.Refusal.{number_of}
use Rattle.picture.proofs.Answers.{done}
use Rattle.picture.proofs.Refused.{call_refused}
use Rattle.whole_blur.specs.Outcome.{whole_outcome}
use Rattle.whole_blur.proofs.Outcomes.{whole_passes}
use Rattle.whole_blur.proofs.blur_whole.Goals as goal

pub returns-in_err-check_whole : goal.returns-in_err-check_whole
unfolding number_of whole_outcome
returns-in_err-check_whole c =
    let p = err_from_is_err_and c.from_residual.result c.from_residual.ensures.1 in
    rw (p.1, p.2) (call_refused _ _ _ _ c.in_err-check_whole.ensures)

pub full_size-size-requires : goal.full_size-size-requires
unfolding number_of
full_size-size-requires c = let a = c.args in (whole_passes a.picture.now a.w a.h a.scratch.now a.numerators.now a.n a.edge c.in_ok-check_whole.ensures).0

pub whole_accepted-requires : goal.whole_accepted-requires
unfolding number_of
whole_accepted-requires c = let a = c.args in rw c.full_size-size.ensures (whole_passes a.picture.now a.w a.h a.scratch.now a.numerators.now a.n a.edge c.in_ok-check_whole.ensures).1

pub returns : goal.returns
unfolding number_of whole_outcome
returns c =
    rw (c.whole_accepted.ensures, c.full_size-size.ensures, c.edge_mode-mode.ensures) (done _ _ _ (sym c.in_ok-check_whole.ensures))
