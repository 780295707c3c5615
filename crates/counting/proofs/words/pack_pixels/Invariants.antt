-- The first k words are packed, and the others are as they were.
use Prim.Native.Nat.{◌+◌}
use Rattle.picture.proofs.Filled.{Filling}
use Rattle.pixels.specs.Pixels.{pixel_at, packed}
use Rattle.counting.proofs.words.pack_pixels.Given as goal

abbrev pub invariant-loop-k : goal.invariant-loop-k
invariant-loop-k l = Filling 0 (λ j. packed (pixel_at l.picture (l.from + j))) l.initial.words l.words l.k
