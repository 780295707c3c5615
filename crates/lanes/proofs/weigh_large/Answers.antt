-- Three or five weights, lent as so many, are the weights.
use native.Mathlib.Omega.{arith}
use Rattle.lanes.proofs.Groups.{as_many, counted}
use Rattle.lanes.proofs.weigh_large.Goals as goal

pub slice_bounds-weigh_groups-end : goal.slice_bounds-weigh_groups-end
slice_bounds-weigh_groups-end c = counted c.args.weights.now c.in-3.is

pub weigh_groups-requires : goal.weigh_groups-requires
weigh_groups-requires c =
    record {
      fact_1 = c.requires.fact_1;
      fact_2 = omega arith;
      fact_3 = (omega arith, omega arith);
      fact_4 = rw (as_many c.args.weights.now c.in-3.is) c.requires.fact_2;
    }

pub returns-in-3 : goal.returns-in-3
returns-in-3 c = rw (as_many c.args.weights.now c.in-3.is) at c.weigh_groups.ensures

pub slice_bounds-weigh_groups-end-in-5 : goal.slice_bounds-weigh_groups-end-in-5
slice_bounds-weigh_groups-end-in-5 c = counted c.args.weights.now c.in-5.is

pub weigh_groups-requires-in-5 : goal.weigh_groups-requires-in-5
weigh_groups-requires-in-5 c =
    record {
      fact_1 = c.requires.fact_1;
      fact_2 = omega arith;
      fact_3 = (omega arith, omega arith);
      fact_4 = rw (as_many c.args.weights.now c.in-5.is) c.requires.fact_2;
    }

pub returns-in-5 : goal.returns-in-5
returns-in-5 c = rw (as_many c.args.weights.now c.in-5.is) at c.weigh_groups-in-5.ensures
