-- By the test, as the definition has it.
use native.Mathlib.Omega.{arith}
use borrow.Author.Tests.{lt-ltb, le-ltb}
use Rattle.vector_values.proofs.head.length.Goals as goal

pub returns-then-n-gt-LONGEST : goal.returns-then-n-gt-LONGEST
returns-then-n-gt-LONGEST c = record { value = rw (← c.number-n.ensures, lt-ltb _ _ c.if-n-gt-LONGEST.true); upper_bound = omega arith }

pub returns-else-n-gt-LONGEST : goal.returns-else-n-gt-LONGEST
returns-else-n-gt-LONGEST c = record { value = rw (← c.number-n.ensures, le-ltb _ _ c.if-n-gt-LONGEST.false); upper_bound = omega arith }
