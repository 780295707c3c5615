-- The first x entries of the row are the table's, and `sum` is the row's sum so far.
use Rattle.std.proofs.Common.{◌≡◌, ◌+◌, ◌*◌, ◌%◌}
use Rattle.picture.specs.Spans.{Run}
use Rattle.area.specs.Area.{alpha_plane, top, entry}
use Rattle.area.proofs.Rows.{row_sum}
use Rattle.area.proofs.builder.build_row.Given as goal

abbrev pub invariant-loop-x : goal.invariant-loop-x
invariant-loop-x l = (l.sum ≡ row_sum (alpha_plane l.picture l.w) l.x l.y % top) × Run 0 l.initial.table l.table (l.y * l.w) l.x (λ i. entry (alpha_plane l.picture l.w) (i + 1) (l.y + 1))
