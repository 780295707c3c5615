-- `any_outside` meets its contract. The loop's invariant: the values from the one at hand on decide.
use Rattle.std.proofs.Common.{◌≡◌, drop}
use Rattle.binary32.specs.Ranges.{any_of, outside_unit}
use Rattle.binary32.proofs.any_outside.Given as goal

abbrev pub invariant-loop-x : goal.invariant-loop-x
invariant-loop-x l = any_of outside_unit l.xs ≡ any_of outside_unit (drop l.x-index l.xs)
