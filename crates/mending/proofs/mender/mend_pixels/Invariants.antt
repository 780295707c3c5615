-- The first i pixels are mended and their changes listed, in scan order.
use Rattle.mending.proofs.Listed.{Turn}
use Rattle.mending.proofs.mender.mend_pixels.Given as goal

abbrev pub invariant-loop-i : goal.invariant-loop-i
invariant-loop-i l = Turn l.initial.picture l.initial.list l.n l.i l.k l.picture l.list
