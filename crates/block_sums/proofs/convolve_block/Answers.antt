-- Either way the buffer has room.
use Rattle.block_sums.proofs.Taps.{whole_room, strip_room}
use Rattle.block_sums.proofs.convolve_block.Goals as goal

pub convolve_whole-requires : goal.convolve_whole-requires
convolve_whole-requires c =
    let r = c.requires in
    record {
      fact_1 = r.fact_1;
      fact_2 = (r.fact_4.some, r.fact_2);
      fact_3 = r.fact_3;
      fact_4 = whole_room r.fact_1.kernel c.args.m c.args.stride r.fact_4 c.if-stride-le-WHOLE.true;
    }

pub convolve_strips-requires : goal.convolve_strips-requires
convolve_strips-requires c =
    let r = c.requires in
    record {
      fact_1 = r.fact_1;
      fact_2 = (r.fact_4.some, r.fact_2);
      fact_3 = r.fact_3;
      fact_4 = strip_room r.fact_1.kernel c.args.m c.args.stride r.fact_4;
    }
