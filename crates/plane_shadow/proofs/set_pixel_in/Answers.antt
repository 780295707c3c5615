-- Each channel is written in its plane.
use mathlib.Core.Path.{refl}
use native.Mathlib.Omega.{arith}
use lib.ListN.{length-set}
use Rattle.plane_shadow.specs.Places.{with_pixel_in}
use Rattle.plane_shadow.proofs.set_pixel_in.Goals as goal

pub returns : goal.returns
unfolding with_pixel_in
returns c = refl

pub bounds-planes-n : goal.bounds-planes-n
bounds-planes-n c = simp length-set (omega arith)

pub bounds-planes-n-2 : goal.bounds-planes-n-2
bounds-planes-n-2 c = simp length-set (omega arith)

pub bounds-planes-n-3 : goal.bounds-planes-n-3
bounds-planes-n-3 c = simp length-set (omega arith)
