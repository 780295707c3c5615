-- The four stores are the definition's.
use mathlib.Core.Path.{refl}
use native.Mathlib.Omega.{arith}
use lib.ListN.{length-set}
use Rattle.pixels.specs.Pixels.{with_pixel_from}
use Rattle.pixels.proofs.set_pixel.Goals as goal

pub returns : goal.returns
unfolding with_pixel_from
returns c = refl

pub bounds-bytes-o-2 : goal.bounds-bytes-o-2
bounds-bytes-o-2 c = simp length-set (omega arith)

pub bounds-bytes-o-3 : goal.bounds-bytes-o-3
bounds-bytes-o-3 c = simp length-set (omega arith)

pub bounds-bytes-o-4 : goal.bounds-bytes-o-4
bounds-bytes-o-4 c = simp length-set (omega arith)
