-- From zeros each turn adds one tap more.
use mathlib.Core.Path.{◌≡◌}
use Prim.Native.Nat.{ℕ, ◌<◌}
use lib.Ieee.{nan}
use lib.ListN.{length, get_or}
use Rattle.lanes.specs.Lanes.{lane_sum}
use Rattle.lanes.proofs.sums.Given as goal

abbrev pub invariant-loop-j : goal.invariant-loop-j
invariant-loop-j l = (length l.acc ≡ length l.initial.acc) × ((i : ℕ) → i < l.n → get_or l.acc i nan ≡ lane_sum l.line l.a l.step l.weights l.j i)
