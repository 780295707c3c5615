-- The number of all the digits is that of the digits from here on, after those that were read.
use mathlib.Core.Path.{◌≡◌}
use Prim.Native.Nat.{◌≤◌}
use lib.ListN.{drop}
use Rattle.pam_format.specs.Format.{number_on, side_at}
use Rattle.pam_format.proofs.number_at.Given as goal

abbrev pub invariant-loop-i : goal.invariant-loop-i
invariant-loop-i l = (l.value ≤ 99999) × (side_at l.file l.at ≡ number_on (drop l.i l.file) l.value)
