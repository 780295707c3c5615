-- Of the number at the place.
use Rattle.vector_values.proofs.head.float.Goals as goal

pub returns : goal.returns
returns c = rw c.number.ensures at c.float.ensures
