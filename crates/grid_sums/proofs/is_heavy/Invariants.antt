-- What has been summed and what is left make the whole sum; it stops where it is above 65536.
use mathlib.Core.Path.{◌≡◌}
use Prim.Native.Nat.{◌+◌, ◌≤◌}
use lib.ListN.{drop}
use Rattle.binary32.specs.Grid.{sum}
use Rattle.grid_sums.proofs.is_heavy.Given as goal

abbrev pub invariant-loop-numerator : goal.invariant-loop-numerator
invariant-loop-numerator l = (l.total ≤ 65536) × (l.total + sum (drop l.numerator-index l.numerators) ≡ sum l.numerators)
