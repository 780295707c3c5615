-- What was read and what is left make the whole number.
use mathlib.Core.Path.{◌≡◌}
use Prim.Native.Nat.{◌+◌}
use Rattle.vector_values.proofs.Numerals.{Read}
use Rattle.vector_values.proofs.text.numeral.Given as goal

abbrev pub invariant-loop-c : goal.invariant-loop-c
invariant-loop-c l = Read l.text l.at l.end l.value × (l.end ≡ l.at + l.c-index)
