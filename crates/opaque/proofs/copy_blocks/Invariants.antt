-- The blocks before the next one are opaque pixels, and are copied.
use mathlib.Core.Path.{◌≡◌}
use Prim.Native.Nat.{◌*◌}
use lib.ListN.{length}
use Rattle.opaque.specs.Front.{Front}
use Rattle.opaque.proofs.copy_blocks.Given as goal

abbrev pub invariant-loop-block : goal.invariant-loop-block
invariant-loop-block l = Front l.from l.initial.to (128 * l.block) l.to × (length l.to ≡ length l.initial.to) × (length l.words ≡ 32)
