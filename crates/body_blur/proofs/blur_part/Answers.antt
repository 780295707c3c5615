-- The blur's own promise, at the job's weights, n, strength and edge rule, where nothing is refused.
use lib.Ieee.{of_bits}
use Rattle.body_blur.proofs.Fixed.{fixed}
use Rattle.body_blur.proofs.blur_part.Goals as goal

pub returns : goal.returns
unfolding of_bits
returns c =
    fixed _ _ _ _ c.requires c.blur.ensures
