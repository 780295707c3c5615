-- Each turn rounds one sum more.
use lib.Ieee.{nan}
use lib.ListN.{get_or}
use Rattle.binary32.specs.Round.{to_byte}
use Rattle.picture.specs.Spans.{Run}
use Rattle.lanes.proofs.round_lanes.Given as goal

abbrev pub invariant-loop-i : goal.invariant-loop-i
invariant-loop-i l = Run 0 l.initial.dst l.dst l.o l.i (λ j. to_byte (get_or l.acc j nan))
