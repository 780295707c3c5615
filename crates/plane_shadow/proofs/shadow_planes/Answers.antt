-- Refused, or the work of an accepted call.
use mathlib.Core.Path.{sym}
use Rattle.std.proofs.lemmas.Result.{err_from_is_err_and}
use Rattle.picture.specs.Refusal.{number_of}
use Rattle.picture.proofs.Answers.{done}
use Rattle.picture.proofs.Refused.{call_refused}
use Rattle.drop_shadow.proofs.Accepted.{accepted}
use Rattle.plane_shadow.specs.Outcome.{shadow_planes_outcome}
use Rattle.plane_shadow.proofs.shadow_planes.Goals as goal

pub returns-in_err-check_shadow : goal.returns-in_err-check_shadow
unfolding number_of shadow_planes_outcome
returns-in_err-check_shadow c =
    let p = err_from_is_err_and c.from_residual.result c.from_residual.ensures.1 in
    rw (p.1, p.2) (call_refused _ _ _ _ c.in_err-check_shadow.ensures)

pub casting_of-cast-requires : goal.casting_of-cast-requires
unfolding number_of
casting_of-cast-requires c =
    let a = c.args in
    (accepted a.planes.now a.w a.h a.scratch.now a.copy.now a.weights.now a.n a.edge a.recipe c.in_ok-check_shadow.ensures).0

pub shadow_planes_accepted-requires : goal.shadow_planes_accepted-requires
unfolding number_of
shadow_planes_accepted-requires c =
    let a = c.args in
    rw c.casting_of-cast.ensures (accepted a.planes.now a.w a.h a.scratch.now a.copy.now a.weights.now a.n a.edge a.recipe c.in_ok-check_shadow.ensures).1

pub returns : goal.returns
unfolding number_of shadow_planes_outcome
returns c = rw (c.shadow_planes_accepted.ensures, c.casting_of-cast.ensures) (done _ _ _ (sym c.in_ok-check_shadow.ensures))
