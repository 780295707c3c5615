-- `tinted_pixel` meets its contract: each channel is the definition's.
use Rattle.composite.specs.Plane.{tinted_by}
use Rattle.composite.proofs.tinted_pixel.Goals as goal

pub returns : goal.returns
unfolding tinted_by
returns c = rw (c.premultiply.ensures, c.premultiply-2.ensures, c.premultiply-3.ensures)
