-- The block is filled; then each turn rounds the sums of one element more.
use mathlib.Core.Path.{◌≡◌}
use Prim.Native.Nat.{◌+◌}
use lib.ListN.{length}
use Rattle.picture.specs.declared.EdgeMode.{EdgeMode}
use Rattle.block_sums.specs.Bytes.{Convolved, Strip}
use Rattle.block_sums.proofs.Bytes.{Filled}
use Rattle.block_sums.proofs.convolve_strip.Given as goal

-- the loop does not know the edge rule: it holds of any by which the line is filled
abbrev pub invariant-loop-i : goal.invariant-loop-i
invariant-loop-i l = (length l.dst ≡ length l.initial.dst)
    × ((mode : EdgeMode) → Filled mode l.weights l.src l.start l.len l.stride l.from l.n l.x l.m l.line →
    Convolved mode l.weights l.src l.start l.len l.stride (Strip l.stride l.x (l.x + l.i) l.from (l.from + l.n)) l.initial.dst l.dst)
