-- What is rounded are the sums.
use mathlib.Core.Path.{sym, subst, ap}
use native.Mathlib.Omega.{arith}
use lib.Dec.{T}
use lib.Ieee.{Float}
use Rattle.picture.proofs.Spans.{span_same}
use Rattle.binary32.specs.Ranges.{nonneg}
use Rattle.binary32.specs.Round.{to_byte}
use Rattle.lanes.proofs.weigh_group.Goals as goal

pub round_lanes-requires : goal.round_lanes-requires
round_lanes-requires c =
    record {
      fact_1 = omega arith;
      fact_2 = omega arith;
      fact_3 = λ i h. subst (λ (x : Float). T (nonneg x)) (sym (c.sums.ensures i h)) (c.requires.fact_3.nonnegative i h);
    }

pub returns : goal.returns
returns c =
    span_same c.round_lanes.ensures (λ i l h. ap to_byte (c.sums.ensures i h))
