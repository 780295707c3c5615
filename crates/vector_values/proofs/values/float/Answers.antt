-- A NaN's pattern makes the NaN, and every other its value.
use mathlib.Core.Path.{◌∙◌, ap}
use lib.Ieee.{binary32, of_bits}
use Rattle.vector_values.proofs.Patterns.{quiet_nan, a_nan, no_nan}
use Rattle.vector_values.proofs.values.float.Goals as goal

pub returns-then-w-gt2139095040 : goal.returns-then-w-gt2139095040
returns-then-w-gt2139095040 c = quiet_nan ∙ a_nan _ (rw c.word-w.ensures at c.if-w-gt2139095040.true)

pub float_from_bits-result : goal.float_from_bits-result
float_from_bits-result c = rw (no_nan c.word-w.result c.if-w-gt2139095040.false) tt

pub returns : goal.returns
returns c = ap (of_bits binary32) c.word-w.ensures
