-- The blocks before the next one are in the planes.
use mathlib.Core.Path.{◌≡◌}
use Prim.Native.Nat.{◌+◌, ◌*◌}
use lib.ListN.{length}
use Rattle.planes.specs.Places.{InPlanes}
use Rattle.planes.proofs.split_blocks.Given as goal

abbrev pub invariant-loop-block : goal.invariant-loop-block
invariant-loop-block l = (length l.dst ≡ length l.initial.dst) × (length l.parts ≡ 320) × InPlanes l.n (48 + 64 * l.block) 0 l.src l.dst
