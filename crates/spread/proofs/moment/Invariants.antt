-- So far the sum and the taps that are left make the whole, which is small.
use mathlib.Core.Path.{◌≡◌}
use Prim.Native.Nat.{◌+◌}
use lib.ListN.{drop}
use Rattle.spread.specs.Spread.{moment, moment_of}
use Rattle.spread.proofs.moment.Given as goal

abbrev pub invariant-loop-j : goal.invariant-loop-j
invariant-loop-j l = l.sum + moment l.middle l.j (drop l.j l.weights) ≡ moment_of l.weights
