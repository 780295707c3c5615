-- `off_grid` meets its contract. The loop's invariant: the weights from `i` on decide, with the sum so far.
use Rattle.std.proofs.Common.{◌≡◌, ◌≤◌, drop}
use Rattle.binary32.specs.Grid.{off_grid}
use Rattle.binary32.proofs.Kernels.{off_from}
use Rattle.binary32.proofs.off_grid.Given as goal

abbrev pub invariant-loop-x : goal.invariant-loop-x
invariant-loop-x l = (l.sum ≤ 65536) × (off_grid l.xs ≡ off_from l.sum (drop l.x-index l.xs))
