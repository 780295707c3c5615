-- The scratch's first part is lent to the blur, comes back, and is cleared.
use Rattle.gaussian_blur.proofs.Outcomes.{lent_cleared}
use Rattle.gaussian_blur.proofs.blur_accepted.Goals as goal

pub returns : goal.returns
returns c =
    lent_cleared c.args.scratch.now c.blur_or_keep.new.scratch c.bytes-k.ensures c.requires.room c.blur_or_keep.auto.scratch c.blur_or_keep.ensures c.clear.ensures
