-- The entries from `start` up to k have gained, and no other has changed.
use Rattle.std.proofs.Common.{◌+◌, ◌%◌, get_or}
use Rattle.picture.specs.Spans.{Span}
use Rattle.area.specs.Area.{top}
use Rattle.area_updates.proofs.updater.add_run.Given as goal

abbrev pub invariant-loop-k : goal.invariant-loop-k
invariant-loop-k l = Span 0 l.initial.table l.table 0 l.start l.k (λ j. (get_or l.initial.table j 0 + l.gain) % top)
