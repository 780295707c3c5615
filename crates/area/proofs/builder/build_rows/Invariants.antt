-- The first y rows of the table are the picture's, and no other entry has changed.
use Rattle.std.proofs.Common.{◌+◌, ◌*◌, ◌/◌, ◌%◌}
use Rattle.picture.specs.Spans.{Span}
use Rattle.area.specs.Area.{alpha_plane, entry}
use Rattle.area.proofs.builder.build_rows.Given as goal

abbrev pub invariant-loop-y : goal.invariant-loop-y
invariant-loop-y l = Span 0 l.initial.table l.table 0 0 (l.y * l.w) (λ k. entry (alpha_plane l.picture l.w) (k % l.w + 1) (k / l.w + 1))
