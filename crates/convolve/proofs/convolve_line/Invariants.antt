-- Each turn makes the bytes of one block more.
use mathlib.Core.Path.{◌≡◌}
use Prim.Native.Nat.{◌-◌, ◌/◌, ◌≤◌, ◌<◌}
use lib.ListN.{length}
use Rattle.block_sums.specs.Bytes.{Convolved}
use Rattle.convolve.proofs.convolve_line.Given as goal

abbrev pub invariant-loop-x : goal.invariant-loop-x
invariant-loop-x l = (l.x ≤ l.len)
    × (length l.line ≡ length l.initial.line)
    × (length l.dst ≡ length l.initial.dst)
    × Convolved l.mode l.weights l.src l.start l.len l.stride (λ j. j / l.stride < l.x) l.initial.dst l.dst

abbrev pub decreases-loop-x : goal.decreases-loop-x
decreases-loop-x l = l.len - l.x
