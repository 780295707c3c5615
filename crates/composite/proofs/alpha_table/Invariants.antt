-- The first i bytes of the table are the shadow's alphas for those below i.
use Rattle.composite.specs.Channels.{shadow_alpha}
use Rattle.picture.proofs.Filled.{Filling}
use Rattle.composite.proofs.alpha_table.Given as goal

abbrev pub invariant-loop-i : goal.invariant-loop-i
invariant-loop-i l = Filling 0 (shadow_alpha l.colour) l.initial.table l.table l.i
