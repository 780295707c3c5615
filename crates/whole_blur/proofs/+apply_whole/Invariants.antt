-- The cycle of calls {apply_whole}: the number of decimations falls at each call.
use Rattle.whole_blur.proofs.+apply_whole.Given as goal

abbrev pub decreases-apply_whole : goal.decreases-apply_whole
decreases-apply_whole l = l.n
