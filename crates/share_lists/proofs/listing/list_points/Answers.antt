-- Rows of zeros, as long as the longest side.
use Rattle.picture.specs.Sizes.{max_side}
use Rattle.share_checks.proofs.Accepted.{zero_row}
use Rattle.share_lists.proofs.listing.list_points.Goals as goal

pub list_in-requires : goal.list_in-requires
unfolding max_side
list_in-requires c =
    let x = zero_row c.args.size.w c.requires.wide in
    let y = zero_row c.args.size.h c.requires.tall in
    record { fact_1 = c.requires; fact_2 = (x, y); fact_3 = x; fact_4 = y }
