-- No sum wraps: an index of 16 bits times an entry's size has room.
use Prim.Native.Nat.{◌*◌, ◌≤◌}
use native.Mathlib.Omega.{arith}
use Rattle.plate_numbers.proofs.Versions.{place_fits}
use Rattle.plate_format.proofs.entry_at.Goals as goal
use Rattle.plate_format.proofs.entry_at.Lts as lts
use Rattle.plate_format.proofs.entry_at.Reads as reads
use Rattle.plate_format.proofs.entry_at.Tie as tie

abbrev the_After-entry_size : Type 0
the_After-entry_size = lts.After-entry_size tie.the-claims reads.Pre reads.Post

place : (c : the_After-entry_size) → c.args.i * c.entry_size.result ≤ 4294967296
place c = rw c.entry_size.ensures (place_fits c.args.i c.version.result c.requires.1)

pub overflow_mul-result : goal.overflow_mul-result
overflow_mul-result c = omega (arith, place c.before)

pub overflow_add-result : goal.overflow_add-result
overflow_add-result c = omega (arith, place c.before)

pub returns : goal.returns
returns c = rw (c.entry_size.ensures, c.version.ensures)
