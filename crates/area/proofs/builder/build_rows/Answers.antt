use Rattle.std.proofs.Common.{◌+◌, ◌/◌, ◌%◌, arith}
use Rattle.picture.proofs.Spans.{span_none, span_join, span_element, span_at}
use Rattle.area.specs.Area.{alpha_plane, entry, built}
use Rattle.area.proofs.Entries.{rows_in, row_ends, corner_is}
use Rattle.area.proofs.Laid.{rows_laid}
use Rattle.area.proofs.builder.build_rows.Goals as goal

pub loop-y-init : goal.loop-y-init
loop-y-init c = span_none (omega arith)

-- the row that is next ends where the picture does, at the latest
pub build_row-requires : goal.build_row-requires
build_row-requires c =
    let l = c.loop-y in
    let w = c.width-w.result in
    let ends = rows_in c.width-w.ensures c.height-h.ensures (l.y + 1) (omega arith) in
    record {
      fact_1 = omega (arith, c.height-h.ensures, c.requires.fact_1.sized.h_high);
      fact_2 = omega (arith, ends, c.requires.fact_1.exact);
      fact_3 = omega (arith, ends);
      fact_4 = λ x m. corner_is (alpha_plane c.args.picture.now w) l.table w (x + 1) l.y (omega arith) (λ k lt. span_at l.invariant k (omega arith) (omega arith) lt);
    }

pub loop-y-preserved : goal.loop-y-preserved
loop-y-preserved c =
    let l = c.loop-y in
    let w = c.width-w.result in
    let p = alpha_plane c.args.picture.now w in
    span_join (omega arith) (omega (arith, row_ends w l.y)) l.invariant (span_element (λ j i. entry p (i + 1) (j + 1)) l.y (omega arith) c.build_row.ensures)

pub returns : goal.returns
unfolding built
returns c =
    let l = c.loop-y in
    rows_laid (λ w k. entry (alpha_plane c.args.picture.now w) (k % w + 1) (k / w + 1)) c.args.table.now l.table l.y
    c.width-w.ensures
    c.height-h.ensures
    (omega arith)
    c.requires.fact_2
    l.invariant
