-- Four runs of groups, one after the other, and none is left.
use mathlib.Core.Path.{refl}
use native.Mathlib.Omega.{arith}
use Rattle.picture.proofs.Spans.{span_join, span_ends}
use Rattle.lanes.proofs.weigh.Goals as goal

pub returns : goal.returns
returns c =
    let g = c.weigh_large-many.ensures in
    let e = c.weigh_groups-some.ensures in
    let f = c.weigh_groups-few.ensures in
    let s = c.weigh_groups.ensures in
    span_ends (span_join (omega arith) s.0.from (span_join (omega arith) f.0.from (span_join g.0.from e.0.from g.1 e.1) f.1) s.1) refl (omega (arith, s.0.to, s.0.left))
