-- A refusal leaves the picture; where nothing is refused, the work has what it needs.
use Rattle.std.proofs.lemmas.Result.{err_from_is_err_and}
use Rattle.picture.specs.Refusal.{number_of}
use Rattle.picture.proofs.Refused.{call_refused}
use Rattle.shift.specs.Outcome.{shift_outcome}
use Rattle.shift.proofs.Entry.{sides_passed, call_ready, call_done}
use Rattle.shift.proofs.shift.Goals as goal

pub returns-in_err-check_shift : goal.returns-in_err-check_shift
unfolding number_of shift_outcome
returns-in_err-check_shift c =
    let p = err_from_is_err_and c.from_residual.result c.from_residual.ensures.1 in
    rw (p.1, p.2) (call_refused _ _ _ _ c.in_err-check_shift.ensures)

pub full_size-requires : goal.full_size-requires
unfolding number_of
full_size-requires c =
    let a = c.args in
    sides_passed a.picture.now a.w a.h a.dx a.dy c.in_ok-check_shift.ensures

pub offset_pixels-requires : goal.offset_pixels-requires
unfolding number_of
offset_pixels-requires c =
    let a = c.args in
    call_ready a.picture.now a.w a.h a.dx a.dy c.in_ok-check_shift.ensures c.full_size.result c.full_size.ensures

pub returns : goal.returns
unfolding number_of
returns c =
    let a = c.args in
    call_done a.picture.now a.w a.h a.dx a.dy c.in_ok-check_shift.ensures c.full_size.result c.full_size.ensures _ c.offset_pixels.ensures
