-- Refused, or the work of an accepted call.
use mathlib.Core.Path.{sym}
use Rattle.std.proofs.lemmas.Result.{err_from_is_err_and}
use Rattle.picture.specs.Refusal.{number_of}
use Rattle.picture.proofs.Answers.{done}
use Rattle.picture.proofs.Refused.{call_refused}
use Rattle.gaussian_blur.specs.Outcome.{blur_outcome}
use Rattle.gaussian_blur.proofs.Outcomes.{accepted}
use Rattle.gaussian_blur.proofs.blur.Goals as goal

pub returns-in_err-check_blur : goal.returns-in_err-check_blur
unfolding number_of blur_outcome
returns-in_err-check_blur c =
    let p = err_from_is_err_and c.from_residual.result c.from_residual.ensures.1 in
    rw (p.1, p.2) (call_refused _ _ _ _ c.in_err-check_blur.ensures)

pub full_size-size-requires : goal.full_size-size-requires
unfolding number_of
full_size-size-requires c = let a = c.args in (accepted a.picture.now a.w a.h a.scratch.now a.weights.now a.n a.strength a.edge c.in_ok-check_blur.ensures).0

pub blur_accepted-requires : goal.blur_accepted-requires
unfolding number_of
blur_accepted-requires c = let a = c.args in rw c.full_size-size.ensures (accepted a.picture.now a.w a.h a.scratch.now a.weights.now a.n a.strength a.edge c.in_ok-check_blur.ensures).1

pub returns : goal.returns
unfolding number_of blur_outcome
returns c =
    rw (c.blur_accepted.ensures, c.full_size-size.ensures, c.edge_mode-mode.ensures) (done _ _ _ (sym c.in_ok-check_blur.ensures))
