-- Each channel's two places lie inside.
use native.Mathlib.Omega.{arith}
use lib.ListN.{length-set}
use Rattle.planes.proofs.carry_pixel.Goals as goal

pub bounds-dst-q-2 : goal.bounds-dst-q-2
bounds-dst-q-2 c = simp length-set (omega arith)

pub bounds-dst-q-3 : goal.bounds-dst-q-3
bounds-dst-q-3 c = simp length-set (omega arith)
