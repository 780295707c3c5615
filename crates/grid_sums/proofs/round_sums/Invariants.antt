-- Each turn rounds one sum more.
use Prim.Native.Nat.{◌+◌, ◌/◌}
use lib.ListN.{get_or}
use Rattle.picture.specs.Spans.{Run}
use Rattle.grid_sums.proofs.round_sums.Given as goal

abbrev pub invariant-loop-i : goal.invariant-loop-i
invariant-loop-i l = Run 0 l.initial.dst l.dst l.o l.i (λ j. (get_or l.acc j 0 + 32768) / 65536)
