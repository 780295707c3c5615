-- Each turn makes the values of one element more.
use mathlib.Core.Path.{◌≡◌}
use Prim.Native.Nat.{◌*◌, ◌≤◌, ◌<◌}
use lib.Ieee.{nan}
use lib.ListN.{length}
use Rattle.blocks.specs.Blocks.{block_value, Made}
use Rattle.blocks.proofs.fill.Given as goal

abbrev pub invariant-loop-e : goal.invariant-loop-e
invariant-loop-e l = (length l.line ≡ length l.initial.line) × Made nan (block_value l.mode l.src l.start l.len l.stride l.from l.n l.x l.d) (λ t. (l.first * l.n ≤ t) × (t < l.e * l.n)) l.initial.line l.line
