-- Each way makes the output of the line.
use Rattle.blend.proofs.halve_inside.Goals as goal

pub returns-then-stride-eq4 : goal.returns-then-stride-eq4
returns-then-stride-eq4 c = rw c.if-stride-eq4.true c.halve_pixel.ensures

pub returns-then-stride-eq1 : goal.returns-then-stride-eq1
returns-then-stride-eq1 c = rw c.if-stride-eq1.true c.halve_byte.ensures
