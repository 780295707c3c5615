-- The test is the definition's.
use mathlib.Core.Path.{refl}
use Rattle.plate_numbers.specs.Numbers.{larger}
use Rattle.plate_numbers.proofs.larger.Goals as goal

pub returns : goal.returns
unfolding larger
returns c = refl
