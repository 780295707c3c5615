-- The pixels of the blocks before the next one are put together.
use mathlib.Core.Path.{◌≡◌}
use Prim.Native.Nat.{◌*◌}
use lib.ListN.{length}
use Rattle.planes.specs.Places.{Carried, pixelwise}
use Rattle.planes.proofs.join_blocks.Given as goal

abbrev pub invariant-loop-block : goal.invariant-loop-block
invariant-loop-block l = (length l.dst ≡ length l.initial.dst) × Carried (pixelwise l.n 1) (pixelwise 1 4) l.src l.dst (4 * (64 * l.block))
