-- A refusal leaves the bytes; where nothing is refused, the work has what it needs.
use mathlib.Core.Path.{sym}
use lib.Seq.{length-take-le}
use Rattle.std.proofs.lemmas.Result.{err_from_is_err_and}
use Rattle.picture.specs.Refusal.{number_of}
use Rattle.picture.proofs.Refused.{call_refused}
use Rattle.planes.specs.Planar.{interleaved}
use Rattle.planes.specs.Outcome.{converted_outcome}
use Rattle.planes.proofs.Entry.{sides_passed, enough, call_ready, call_done}
use Rattle.planes.proofs.from_planes.Goals as goal

pub returns-in_err-check_convert : goal.returns-in_err-check_convert
unfolding number_of converted_outcome
returns-in_err-check_convert c =
    let p = err_from_is_err_and c.from_residual.result c.from_residual.ensures.1 in
    rw (p.1, p.2) (call_refused _ _ _ _ c.in_err-check_convert.ensures)

pub full_size-requires : goal.full_size-requires
unfolding number_of
full_size-requires c =
    let a = c.args in
    sides_passed interleaved a.src.now a.w a.h a.dst.now c.in_ok-check_convert.ensures

pub slice_bounds-join-end : goal.slice_bounds-join-end
unfolding number_of
slice_bounds-join-end c =
    let a = c.args in
    enough interleaved a.src.now a.w a.h a.dst.now c.in_ok-check_convert.ensures

pub slice_bounds-join-end-2 : goal.slice_bounds-join-end-2
unfolding number_of
slice_bounds-join-end-2 c =
    let a = c.args in
    sym (length-take-le _ _ (enough interleaved a.src.now a.w a.h a.dst.now c.in_ok-check_convert.ensures))

pub join-requires : goal.join-requires
unfolding number_of
join-requires c =
    let a = c.args in
    call_ready interleaved a.src.now a.w a.h a.dst.now c.in_ok-check_convert.ensures _ c.full_size.ensures

pub returns : goal.returns
unfolding number_of
returns c =
    let a = c.args in
    call_done interleaved a.src.now a.w a.h a.dst.now c.in_ok-check_convert.ensures _ c.full_size.ensures _ c.join.ensures c.join.auto.dst
