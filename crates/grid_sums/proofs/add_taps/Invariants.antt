-- Each turn adds the samples of one tap more.
use mathlib.Core.Path.{◌≡◌}
use Prim.Native.Nat.{ℕ, ◌<◌}
use lib.ListN.{length, get_or}
use Rattle.grid_sums.proofs.Lanes.{part_sum}
use Rattle.grid_sums.proofs.add_taps.Given as goal

abbrev pub invariant-loop-j : goal.invariant-loop-j
invariant-loop-j l = (length l.acc ≡ length l.initial.acc) × ((i : ℕ) → i < l.run.n → get_or l.acc i 0 ≡ part_sum l.mode l.numerators l.src l.start l.len l.stride l.run.x l.run.from i l.j)
