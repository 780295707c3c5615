-- The size and the edge mode are made of the call's numbers, and the rest is given.
use Rattle.drop_shadow.proofs.casting_of.Goals as goal

pub returns : goal.returns
returns c = rw (c.full_size.ensures, c.edge_mode.ensures)
