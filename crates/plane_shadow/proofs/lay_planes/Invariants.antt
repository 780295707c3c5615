-- The first i pixels of the planes lie over the shadow's, or are the shadow's, and the others are as they were.
use mathlib.Core.Bool.{cond}
use denote.Param.{number}
use lib.ListN.{get_or}
use Rattle.composite.specs.Channels.{over}
use Rattle.composite.specs.Plane.{tinted_by}
use Rattle.plane_shadow.specs.Places.{channel_in}
use Rattle.plane_shadow.specs.contracts.lay_planes.{COMPOSITE-type}
use Rattle.plane_shadow.proofs.Laying.{Laying}
use Rattle.plane_shadow.proofs.lay_planes.Given as goal

abbrev pub invariant-loop-i : goal.invariant-loop-i
invariant-loop-i g l =
    Laying l.n (λ j c. cond (COMPOSITE-type (number g.row.COMPOSITE)) (over (channel_in l.n l.initial.planes j c) (tinted_by l.tint (get_or l.alphas j 0) c) (channel_in l.n l.initial.planes j 3)) (tinted_by l.tint (get_or l.alphas j 0) c))
    l.initial.planes l.planes l.i
