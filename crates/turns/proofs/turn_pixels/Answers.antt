-- One line, two, three or any other number of them.
use Rattle.turns.proofs.turn_pixels.Goals as goal

pub turn_elements-requires : goal.turn_elements-requires
turn_elements-requires c = rw c.in-1.is at c.requires

pub turn_elements-requires-in-2 : goal.turn_elements-requires-in-2
turn_elements-requires-in-2 c = rw c.in-2.is at c.requires

pub turn_elements-requires-in-3 : goal.turn_elements-requires-in-3
turn_elements-requires-in-3 c = rw c.in-3.is at c.requires

pub returns-in-1 : goal.returns-in-1
returns-in-1 c = rw c.in-1.is c.turn_elements.ensures

pub returns-in-2 : goal.returns-in-2
returns-in-2 c = rw c.in-2.is c.turn_elements-in-2.ensures

pub returns-in-3 : goal.returns-in-3
returns-in-3 c = rw c.in-3.is c.turn_elements-in-3.ensures
