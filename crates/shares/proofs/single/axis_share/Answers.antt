-- Rows of zeros, as long as the longest side.
use Rattle.picture.specs.Sizes.{max_side}
use Rattle.share_checks.proofs.Accepted.{zero_row}
use Rattle.shares.proofs.single.axis_share.Goals as goal

pub share_in-requires : goal.share_in-requires
unfolding max_side
share_in-requires c =
    let row = zero_row c.args.side.s c.requires.fact_1.high in
    record { fact_1 = c.requires.fact_1; fact_2 = row; fact_3 = row; fact_4 = c.requires.fact_2 }
