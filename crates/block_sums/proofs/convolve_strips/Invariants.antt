-- Each turn makes one strip more.
use mathlib.Core.Path.{◌≡◌}
use Prim.Native.Nat.{◌+◌, ◌-◌, ◌%◌, ◌≤◌, ◌<◌}
use lib.ListN.{length}
use Rattle.block_sums.specs.Bytes.{Convolved, Elements}
use Rattle.block_sums.proofs.convolve_strips.Given as goal

abbrev pub invariant-loop-from : goal.invariant-loop-from
invariant-loop-from l = (l.from ≤ l.stride)
    × (length l.line ≡ length l.initial.line)
    × (length l.dst ≡ length l.initial.dst)
    × Convolved l.mode l.weights l.src l.start l.len l.stride (λ j. Elements l.stride l.x (l.x + l.m) j × (j % l.stride < l.from)) l.initial.dst l.dst

abbrev pub decreases-loop-from : goal.decreases-loop-from
decreases-loop-from l = l.stride - l.from
