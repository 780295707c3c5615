-- The first elements of both rows are lent, and what lies beyond them stays zero.
use mathlib.Core.Path.{◌∙◌}
use Prim.Native.Nat.{◌≤◌}
use native.Mathlib.Omega.{arith}
use lib.ListN.{length, drop}
use lib.Seq.{length-take-le, take_at}
use Rattle.picture.proofs.Sizes.{side_fits}
use Rattle.backwards.proofs.Lines.{blank_take, blank_drop, blank_append}
use Rattle.share_checks.proofs.axes.fill_axis.Goals as goal
use Rattle.share_checks.proofs.axes.fill_axis.Goals.{After-length-s}

-- both rows are as long as the axis
rooms : (c : After-length-s) →
    let a = c.args in
    (c.length-s.result ≤ length a.work.now) × (c.length-s.result ≤ length a.row.now)
rooms c =
    let p = c.requires in
    (omega (arith, c.length-s.ensures, p.fact_2.room), omega (arith, c.length-s.ensures, p.fact_3.room))

pub axis_shares-requires : goal.axis_shares-requires
axis_shares-requires c =
    let room = rooms (goal.at.axis_shares-requires c).After-length-s in
    let p = c.requires in
    record {
      inside = p.fact_1.inside;
      high = omega (arith, p.fact_1.high, side_fits);
      shallow = p.fact_1.shallow;
      work_is = length-take-le _ _ room.0 ∙ c.length-s.ensures;
      row_is = length-take-le _ _ room.1 ∙ c.length-s.ensures;
      work_blank = blank_take c.length-s.result c.args.work.now p.fact_2.blank;
      row_blank = blank_take c.length-s.result c.args.row.now p.fact_3.blank;
      kernel = p.fact_1.kernel;
    }

pub returns : goal.returns
returns c =
    let room = rooms (goal.at.returns c).After-length-s in
    let k = c.length-s.result in
    let call = c.axis_shares in
    record {
      row_after =
          take_at call.new.row (drop k c.args.row.now) c.args.side.s (call.auto.row ∙ length-take-le k c.args.row.now room.1 ∙ c.length-s.ensures)
          ∙ call.ensures.row_after;
      blank = blank_append call.new.work (drop k c.args.work.now) call.ensures.blank (blank_drop k c.args.work.now c.requires.fact_2.blank);
    }
