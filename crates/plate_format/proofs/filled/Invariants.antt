-- The entries below i obey, and body i starts at the running offset: the table's end plus the lengths before it.
use mathlib.Core.Path.{◌≡◌}
use mathlib.Core.Bool.{true}
use Prim.Native.Nat.{◌+◌, ◌*◌, ◌≤◌}
use lib.ListN.{length}
use Rattle.plate_format.specs.Format.{body_offset, entry_obeys, all_below}
use Rattle.plate_format.proofs.filled.Given as goal

abbrev pub invariant-loop-i : goal.invariant-loop-i
invariant-loop-i l = (l.start ≡ body_offset l.file l.i) × (l.start ≤ length l.file + l.i * 4294967296) × (all_below l.i (entry_obeys l.file) ≡ true)
