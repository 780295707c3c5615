-- The library's number of two bytes is that of the definition.
use mathlib.Core.Path.{◌∙◌}
use native.Mathlib.Omega.{arith}
use Rattle.plate_numbers.specs.Numbers.{u16_at}
use Rattle.plate_numbers.proofs.u16_at.Goals as goal

pub returns : goal.returns
unfolding u16_at
returns c = c.from_le_bytes.ensures ∙ omega arith
