-- Each turn adds what one tap more reads, and nothing wraps: all that is added comes to at most v times the weights.
use Prim.Native.Nat.{◌*◌}
use lib.ListN.{length}
use Rattle.back_passes.specs.Worth.{Gained}
use Rattle.back_passes.specs.Steps.{taps_to}
use Rattle.back_passes.proofs.taps.carry_taps.Given as goal

abbrev pub invariant-loop-j : goal.invariant-loop-j
invariant-loop-j l = Gained l.initial.row l.row (λ line. l.v * taps_to l.mode l.taps (length l.initial.row) line l.c l.d l.j)
