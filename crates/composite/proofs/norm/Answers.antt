-- `norm` meets its contract: its operation is the definition's.
use mathlib.Core.Path.{refl}
use lib.Ieee.{of_bits}
use Rattle.composite.specs.Channels.{norm}
use Rattle.composite.proofs.norm.Goals as goal

pub returns : goal.returns
unfolding of_bits norm
returns c = refl
