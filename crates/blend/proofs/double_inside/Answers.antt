-- Each way makes the two outputs of the line.
use Rattle.blend.proofs.double_inside.Goals as goal

pub returns-then-stride-eq4 : goal.returns-then-stride-eq4
returns-then-stride-eq4 c = rw c.if-stride-eq4.true c.double_pixel.ensures

pub returns-then-stride-eq1 : goal.returns-then-stride-eq1
returns-then-stride-eq1 c = rw c.if-stride-eq1.true c.double_lanes.ensures
