use mathlib.Core.Path.{refl, ◌∙◌, ap, sym, subst}
use mathlib.Core.List.{List}
use Prim.Native.Nat.{ℕ, ◌+◌, ◌*◌, ◌≤◌, ◌<◌}
use native.Mathlib.Omega.{arith}
use lib.ListN.{length, set}
use Rattle.mending.specs.Changes.{laid_entries}
use Rattle.points.proofs.Turns.{RowTurn, turn_first, place_fits, turn_room, turn_more, turn_last}
use Rattle.points.proofs.write_row.Goals as goal
use Rattle.points.proofs.write_row.Goals.{In-loop-x}

-- how a turn of the loop stands
module _ (c : In-loop-x) where
  -- there is room for this point
  room : c.loop-x.k < length c.loop-x.list
  room =
      let a = c.args in
      let l = c.loop-x in
      turn_room a.xs.now a.w a.ys.now a.y a.from (length a.list.now) a.k c.requires a.list.now l.list l.k l.x l.invariant (omega arith) refl

  -- and its place fits
  small : c.args.y * c.args.w + c.loop-x.x ≤ 4294967296
  small =
      let a = c.args in
      omega (arith, place_fits a.xs.now a.w a.ys.now a.y a.from (length a.list.now) a.k c.requires, c.loop-x.invariant.high, c.requires.rows.within)

pub loop-x-init : goal.loop-x-init
loop-x-init c =
    let a = c.args in
    turn_first a.xs.now a.w a.ys.now a.y a.from (length a.list.now) a.k c.requires a.list.now

pub loop-x-smaller : goal.loop-x-smaller
loop-x-smaller c = omega (arith, c.next_nonzero-x.ensures.low)

pub loop-x-preserved : goal.loop-x-preserved
loop-x-preserved c =
    let l = c.loop-x in
    let a = c.args in
    subst (λ (e : List ℕ). RowTurn a.xs.now a.w a.ys.now a.y a.list.now (set l.list l.k e) (l.k + 1) c.next_nonzero-x.result) (sym c.entry_at.ensures)
    (turn_more a.xs.now a.w a.ys.now a.y a.from (length a.list.now) a.k c.requires a.list.now l.list l.k l.x l.invariant (omega arith) c.next_nonzero-x.result refl c.next_nonzero-x.ensures)

pub returns : goal.returns
returns c = let l = c.loop-x in
    let a = c.args in
    let last = turn_last a.xs.now a.w a.ys.now a.y a.from (length a.list.now) a.k c.requires l.x (omega (arith, l.invariant.high)) in record { value = l.invariant.counted ∙ ap length (sym last); by_index = λ old h. l.invariant.laying old h ∙ ap (λ (new : List (List ℕ)). laid_entries new old) (sym last) }

pub offset_bounds-ys-y : goal.offset_bounds-ys-y
offset_bounds-ys-y c = omega (arith, c.requires.inside)

pub bounds-ys-y : goal.bounds-ys-y
bounds-ys-y c = c.requires.inside

pub overflow_mul-place : goal.overflow_mul-place
overflow_mul-place c = omega (arith, small (goal.at.overflow_mul-place c).In-loop-x)

pub overflow_add-place : goal.overflow_add-place
overflow_add-place c = omega (arith, small (goal.at.overflow_add-place c).In-loop-x)

pub entry_at-requires : goal.entry_at-requires
entry_at-requires c = tt

pub offset_bounds-list-k : goal.offset_bounds-list-k
offset_bounds-list-k c = omega (arith, room (goal.at.offset_bounds-list-k c).In-loop-x)

pub bounds-list-k : goal.bounds-list-k
bounds-list-k c = room (goal.at.bounds-list-k c).In-loop-x

pub overflow_add-k : goal.overflow_add-k
overflow_add-k c = omega (arith, room (goal.at.overflow_add-k c).In-loop-x)

pub shape_of-list : goal.shape_of-list
shape_of-list c = c.loop-x.invariant.same
