-- The rows above j have gained what they gain, and no other entry has changed.
use Rattle.std.proofs.Common.{◌*◌}
use Rattle.picture.specs.Spans.{Span}
use Rattle.area.specs.Area.{gained}
use Rattle.area_updates.proofs.updater.add_rows.Given as goal

abbrev pub invariant-loop-j : goal.invariant-loop-j
invariant-loop-j l = Span 0 l.initial.table l.table 0 0 (l.j * l.w) (gained l.initial.table l.w l.x l.y l.gain)
