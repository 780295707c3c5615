-- The width stands after nine bytes.
use Rattle.pam_format.proofs.Decimals.{length_width}
use Rattle.pam_format.proofs.width_in.Goals as goal

pub returns : goal.returns
returns c = rw length_width c.number_at.ensures
