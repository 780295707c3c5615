-- The cycle of calls {apply_blur}: the number of decimations falls at each call.
use Rattle.gaussian_blur.proofs.+apply_blur.Given as goal

abbrev pub decreases-apply_blur : goal.decreases-apply_blur
decreases-apply_blur l = l.n
