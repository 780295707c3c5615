-- The part lent to the blur is the body, and comes back in its place.
use Rattle.body_blur.specs.Blur.{plate_blur}
use Rattle.body_blur.proofs.Body.{inside, part_fits, part_back}
use Rattle.body_blur.proofs.blur_body.Goals as goal

pub slice_bounds-blur_part-end : goal.slice_bounds-blur_part-end
slice_bounds-blur_part-end c = inside _ _ _ _ c.requires _ c.read_entry-e.ensures

pub blur_part-requires : goal.blur_part-requires
blur_part-requires c = part_fits _ _ _ _ c.requires _ c.read_entry-e.ensures

pub returns : goal.returns
returns c = part_back _ _ _ _ c.requires _ c.read_entry-e.ensures plate_blur c.blur_part.ensures
