-- The first i pixels are carried.
use mathlib.Core.Path.{◌≡◌}
use Prim.Native.Nat.{◌*◌}
use lib.ListN.{length}
use Rattle.planes.specs.Places.{Carried, pixelwise}
use Rattle.planes.proofs.carry.Given as goal

abbrev pub invariant-loop-i : goal.invariant-loop-i
invariant-loop-i l = (length l.dst ≡ length l.initial.dst) × Carried (pixelwise l.s.channel l.s.pixel) (pixelwise l.d.channel l.d.pixel) l.src l.dst (4 * l.i)
