-- Four bytes or any other number of them.
use Rattle.turns.proofs.copy_element.Goals as goal

pub returns-then-size-eq4 : goal.returns-then-size-eq4
returns-then-size-eq4 c = rw c.if-size-eq4.true c.copy_four.ensures
