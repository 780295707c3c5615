-- Four bytes, one or any other number of them.
use Rattle.turns.proofs.turn.Goals as goal

pub turn_pixels-requires : goal.turn_pixels-requires
turn_pixels-requires c = rw c.in-4.is at c.requires

pub turn_elements-requires : goal.turn_elements-requires
turn_elements-requires c = rw c.in-1.is at c.requires

pub returns-in-4 : goal.returns-in-4
returns-in-4 c = rw c.in-4.is c.turn_pixels.ensures

pub returns-in-1 : goal.returns-in-1
returns-in-1 c = rw c.in-1.is c.turn_elements.ensures
