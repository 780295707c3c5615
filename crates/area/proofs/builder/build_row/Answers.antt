use Rattle.std.proofs.Common.{◌+◌, refl, ◌∙◌, arith}
use Rattle.picture.proofs.Spans.{span_none, span_more, span_ends}
use Rattle.area.specs.Area.{alpha_plane}
use Rattle.area.proofs.Entries.{row_ends, corner_same}
use Rattle.area.proofs.Rows.{row_none, sum_step, entry_step, alpha_at}
use Rattle.area.proofs.builder.build_row.Goals as goal

pub loop-x-init : goal.loop-x-init
loop-x-init c =
    let a = c.args in
    (omega (arith, row_none (alpha_plane a.picture.now a.w) a.y), span_none (omega arith))

pub loop-x-preserved : goal.loop-x-preserved
loop-x-preserved c =
    let a = c.args in
    let l = c.loop-x in
    let p = alpha_plane a.picture.now a.w in
    let row = sum_step p l.x a.y l.sum _ l.invariant.0 (c.from-sum.ensures ∙ alpha_at a.picture.now a.w l.x a.y) in
    let above =
    c.corner-above.ensures
    ∙ corner_same a.table.now l.table a.w (l.x + 1) a.y (omega arith) (λ k m. l.invariant.1.below k (omega arith))
    ∙ c.requires.fact_4 l.x (omega arith) in
    (row, span_more l.invariant.1 (omega arith) (omega (arith, row_ends a.w a.y)) refl (entry_step p (l.x + 1) a.y _ _ above row))

pub returns : goal.returns
returns c = let l = c.loop-x in span_ends l.invariant.1 refl (omega arith)
