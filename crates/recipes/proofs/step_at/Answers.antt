-- Recipe i of the lent list.
use Rattle.std.proofs.lemmas.List.{get_or_default}
use Rattle.recipes.specs.Chain.{no_step, step_at}
use Rattle.recipes.proofs.step_at.Goals as goal

pub returns : goal.returns
unfolding step_at
returns c = get_or_default c.args.steps.now c.args.i _ no_step c.requires
