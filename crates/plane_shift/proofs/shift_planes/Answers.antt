-- A refusal leaves the planes; where nothing is refused, the work has what it needs.
use mathlib.Core.Path.{sym}
use Rattle.std.proofs.lemmas.Result.{err_from_is_err_and}
use Rattle.picture.specs.Refusal.{number_of}
use Rattle.picture.proofs.Answers.{done}
use Rattle.picture.proofs.Refused.{call_refused}
use Rattle.shift.proofs.Entry.{sides_passed, call_ready}
use Rattle.plane_shift.specs.Shifted.{shift_planes_outcome}
use Rattle.plane_shift.proofs.shift_planes.Goals as goal

pub returns-in_err-check_shift : goal.returns-in_err-check_shift
unfolding number_of shift_planes_outcome
returns-in_err-check_shift c =
    let p = err_from_is_err_and c.from_residual.result c.from_residual.ensures.1 in
    rw (p.1, p.2) (call_refused _ _ _ _ c.in_err-check_shift.ensures)

pub full_size-requires : goal.full_size-requires
unfolding number_of
full_size-requires c =
    let a = c.args in
    sides_passed a.planes.now a.w a.h a.dx a.dy c.in_ok-check_shift.ensures

pub offset_planes-requires : goal.offset_planes-requires
unfolding number_of
offset_planes-requires c =
    let a = c.args in
    call_ready a.planes.now a.w a.h a.dx a.dy c.in_ok-check_shift.ensures c.full_size.result c.full_size.ensures

pub returns : goal.returns
unfolding number_of shift_planes_outcome
returns c = rw (c.offset_planes.ensures, c.full_size.ensures) (done _ _ _ (sym c.in_ok-check_shift.ensures))
