-- The line from `at` is what was passed and the line from `i`.
use mathlib.Core.Path.{◌≡◌}
use Prim.Native.Nat.{◌+◌}
use lib.ListN.{drop}
use Rattle.vector_values.specs.Numerals.{line_length}
use Rattle.vector_values.proofs.text.line_end.Given as goal

abbrev pub invariant-loop-i : goal.invariant-loop-i
invariant-loop-i l = l.at + line_length (drop l.at l.text) ≡ l.i + line_length (drop l.i l.text)
