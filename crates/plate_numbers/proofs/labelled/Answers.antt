-- The test is the definition's.
use mathlib.Core.Path.{refl}
use Rattle.plate_numbers.specs.Numbers.{labelled}
use Rattle.plate_numbers.proofs.labelled.Goals as goal

pub returns : goal.returns
unfolding labelled
returns c = refl
