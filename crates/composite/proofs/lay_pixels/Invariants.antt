-- The first i pixels of the picture lie over the shadow's, or are the shadow's, and the others are as they were.
use mathlib.Core.Bool.{cond}
use Prim.Native.Nat.{◌*◌}
use denote.Param.{number}
use lib.ListN.{get_or}
use Rattle.composite.specs.contracts.lay_pixels.{COMPOSITE-type}
use Rattle.composite.specs.Channels.{over}
use Rattle.composite.specs.Plane.{tinted_by}
use Rattle.pixels.proofs.Painting.{at, Painting}
use Rattle.composite.proofs.lay_pixels.Given as goal

abbrev pub invariant-loop-i : goal.invariant-loop-i
invariant-loop-i g l =
    Painting (λ j c. cond (COMPOSITE-type (number g.row.COMPOSITE)) (over (at l.initial.picture j c) (tinted_by l.tint (get_or l.alphas j 0) c) (at l.initial.picture j 3)) (tinted_by l.tint (get_or l.alphas j 0) c))
    l.initial.picture l.picture l.i (l.fn.size.w * l.fn.size.h)
