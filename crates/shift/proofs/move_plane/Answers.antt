-- Where something lies inside, either way moves the plane; else all bytes are set to zero.
use mathlib.Core.Path.{sym, ◌∙◌}
use Prim.Native.Nat.{◌+◌, ◌<◌}
use Rattle.shift.specs.Bytes.{along}
use Rattle.shift.proofs.Plane.{some_inside, out_zeroed}
use Rattle.shift.proofs.move_plane.Goals as goal
use Rattle.shift.proofs.move_plane.Lts as lts
use Rattle.shift.proofs.move_plane.Reads as reads
use Rattle.shift.proofs.move_plane.Tie as tie

abbrev the_Else-moved_out : Type 0
the_Else-moved_out = lts.Else1 tie.the-claims reads.Pre reads.Post

pub returns-then-moved_out : goal.returns-then-moved_out
returns-then-moved_out c =
    let a = c.args in
    c.clear_run.ensures
    ∙ out_zeroed (along a.dx) a.dy a.w a.h a.bytes.now c.requires.0 c.requires.1 c.requires.2 (sym c.moved_out.ensures ∙ c.if-moved_out.true)

-- something lies inside
room : (c : the_Else-moved_out) → let a = c.args in (a.dx.plus + a.dx.minus < a.w) × (a.dy.plus + a.dy.minus < a.h)
room c = let a = c.args in some_inside (along a.dx) a.dy a.w a.h (sym c.moved_out.ensures ∙ c.if-moved_out.false)

pub move_rows-requires : goal.move_rows-requires
move_rows-requires c = let p = c.requires in let r = room c.before.before.before in (p.0, p.1, p.2, r.0, r.1)

pub move_flat-requires : goal.move_flat-requires
move_flat-requires c = let p = c.requires in let r = room c.before.before.before in (p.0, p.1, p.2, r.0, r.1)
