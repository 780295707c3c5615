-- The test is the definition's.
use Rattle.plate_numbers.specs.Numbers.{known_to, newest}
use Rattle.plate_numbers.proofs.known.Goals as goal

pub returns : goal.returns
unfolding known_to newest
returns c = rw c.zero_or_above.ensures
