-- The number of decimations falls at each call.
use Rattle.backwards.proofs.line.+carry_line.Given as goal

abbrev pub decreases-carry_line : goal.decreases-carry_line
decreases-carry_line l = l.n
