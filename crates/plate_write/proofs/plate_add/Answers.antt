-- Each way out is the answer of the check that led there; past them the picture is added.
use mathlib.Core.Path.{◌≡◌, ◌∙◌, sym, ap}
use mathlib.Core.Bool.{false}
use native.Mathlib.Nat.{sub-zero}
use borrow.Author.Rules.{rules}
use lib.Dec.{lit<}
use lib.ListN.{length}
use Rattle.std.proofs.lemmas.Result.{err_from_is_err_and}
use Rattle.picture.specs.Answer.{answered}
use Rattle.picture.specs.Refusal.{number, number_of, wrong_sides, wrong_length}
use Rattle.picture.proofs.Conditions.{right_length}
use Rattle.picture.proofs.Passed.{passed}
use Rattle.plate_numbers.proofs.Refused.{refusing, passing}
use Rattle.plate_room.specs.Room.{no_room, in_use, no_plate}
use Rattle.plate_room.proofs.Room.{in_plate}
use Rattle.plate_empty.specs.Outcome.{Grown}
use Rattle.plate_write.proofs.Settle.{no_plate_lem, wrong_picture, no_room_lem, add_done}
use Rattle.plate_write.proofs.plate_add.Goals as goal
use Rattle.plate_write.proofs.plate_add.Goals.{In_ok-refuse_if, In_ok-check_picture, After-no_room}

pub returns-in_err-refuse_if : goal.returns-in_err-refuse_if
unfolding number
returns-in_err-refuse_if c =
    let p = err_from_is_err_and c.from_residual.result c.from_residual.ensures.1 in
    let t = refusing _ c.in_err-refuse_if.ensures in
    rw (p.1, p.2, t.1) (no_plate_lem _ _ _ _ _ _ (sym c.no_plate.ensures ∙ t.0))

-- past check 10
plate : (c : In_ok-refuse_if) → no_plate c.args.buffer.now c.args.used c.args.unit ≡ false
plate c = sym c.no_plate.ensures ∙ passing _ _ c.in_ok-refuse_if.ensures

pub returns-in_err-check_picture : goal.returns-in_err-check_picture
unfolding number_of
returns-in_err-check_picture c =
    let p = err_from_is_err_and c.from_residual-in_err-check_picture.result c.from_residual-in_err-check_picture.ensures.1 in
    rw (p.1, p.2) (wrong_picture _ _ _ _ _ _ (plate (goal.at.returns-in_err-check_picture c).In_ok-refuse_if) _ c.in_err-check_picture.ensures)

-- past checks 1 and 2
right : (c : In_ok-check_picture) → let a = c.args in (wrong_sides a.w a.h ≡ false) × (wrong_length (length a.picture.now) a.w a.h ≡ false)
unfolding number_of
right c = let one = passed _ _ (lit< tt) c.in_ok-check_picture.ensures in (one.0, (passed _ _ (lit< tt) one.1).0)

pub slice_bounds-no_room-end : goal.slice_bounds-no_room-end
slice_bounds-no_room-end c = let s = (in_plate _ _ _ (plate (goal.at.slice_bounds-no_room-end c).In_ok-refuse_if)).inside in search rules

pub no_room-requires : goal.no_room-requires
no_room-requires c =
    let s = in_plate _ _ _ (plate (goal.at.no_room-requires c).In_ok-refuse_if) in
    (rw (sub-zero c.args.used) s.is_plate, (right (goal.at.no_room-requires c).In_ok-check_picture).0)

-- whether there is room, asked of the stretch
room : (c : After-no_room) → let a = c.args in c.no_room.result ≡ no_room (length a.buffer.now) (in_use a.buffer.now a.used) a.w a.h
room c = c.no_room.ensures ∙ rw (sub-zero c.args.used)

pub returns-in_err-refuse_if-2 : goal.returns-in_err-refuse_if-2
unfolding number
returns-in_err-refuse_if-2 c =
    let at = goal.at.returns-in_err-refuse_if-2 c in
    let p = err_from_is_err_and c.from_residual-in_err-refuse_if-2.result c.from_residual-in_err-refuse_if-2.ensures.1 in
    let t = refusing _ c.in_err-refuse_if-2.ensures in
    let r = right at.In_ok-check_picture in
    rw (p.1, p.2, t.1) (no_room_lem _ _ _ _ _ _ (plate at.In_ok-refuse_if) r.0 r.1 (sym (room at.After-no_room) ∙ t.0))

pub append-requires : goal.append-requires
append-requires c =
    let at = goal.at.append-requires c in
    let s = in_plate _ _ _ (plate at.In_ok-refuse_if) in
    let r = right at.In_ok-check_picture in
    record {
      inside = s.inside;
      plate = s.is_plate;
      named = s.named;
      sides = r.0;
      exact = (right_length _ _ _).0 r.1;
      room = sym (room at.After-no_room) ∙ passing _ _ c.in_ok-refuse_if-2.ensures;
    }

pub returns : goal.returns
returns c =
    let at = goal.at.returns c in
    let r = right at.In_ok-check_picture in
    ap (λ (g : Grown). answered 0 g) c.append.ensures
    ∙ add_done _ _ _ _ _ _ (plate at.In_ok-refuse_if) r.0 r.1 (sym (room at.After-no_room) ∙ passing _ _ c.in_ok-refuse_if-2.ensures)
