-- The sides and the label fit two bytes, and where the body starts and how long it is fit four.
use mathlib.Core.Path.{◌≡◌, ◌∙◌, ap}
use Prim.Native.Nat.{◌+◌, ◌<◌}
use native.Mathlib.Omega.{arith}
use lib.ListN.{length}
use Rattle.picture.specs.Planes.{bytes_of}
use Rattle.picture.proofs.Sizes.{full_sized}
use Rattle.plate_numbers.specs.Numbers.{version, entry_size}
use Rattle.plate.proofs.Settle.{named}
use Rattle.plate_room.specs.Room.{length_after}
use Rattle.plate_room.proofs.Room.{side_small}
use Rattle.plate_room.proofs.new_entry.Goals as goal
use Rattle.plate_room.proofs.new_entry.Goals.{Start}
use Rattle.plate_room.proofs.new_entry.Lts as lts
use Rattle.plate_room.proofs.new_entry.Reads as reads
use Rattle.plate_room.proofs.new_entry.Tie as tie

abbrev the_After-entry_size : Type 0
the_After-entry_size = lts.After-entry_size tie.the-claims reads.Pre reads.Post

abbrev the_After-bytes : Type 0
the_After-bytes = lts.After-bytes tie.the-claims reads.Pre reads.Post

-- the plate, one entry and the picture together fit four bytes
whole : (c : Start) → length c.args.plate.now + entry_size (version c.args.plate.now) + bytes_of c.args.w c.args.h < 4294967296
unfolding length_after
whole c = c.requires.2

-- the entry's size is the version's
size : (c : the_After-entry_size) → c.entry_size.result ≡ entry_size (version c.args.plate.now)
size c = c.entry_size.ensures ∙ ap entry_size c.version-v.ensures

pub overflow_add-start : goal.overflow_add-start
overflow_add-start c = omega (arith, whole c.before.before.before.before.before, size c.before)

pub overflow_cast-result : goal.overflow_cast-result
overflow_cast-result c = omega (arith, side_small _ _ c.requires.1)

pub overflow_cast-result-2 : goal.overflow_cast-result-2
overflow_cast-result-2 c = omega (arith, side_small _ _ c.requires.1)

pub overflow_cast-result-3 : goal.overflow_cast-result-3
overflow_cast-result-3 c = omega (arith, whole c.before.before.before.before.before, size c.before)

pub bytes-requires : goal.bytes-requires
bytes-requires c = rw c.full_size-size.ensures (full_sized _ _ c.requires.1)

-- the picture's bytes
bytes : (c : the_After-bytes) → c.bytes.result ≡ bytes_of c.args.w c.args.h
bytes c = c.bytes.ensures ∙ rw c.full_size-size.ensures

pub overflow_cast-result-4 : goal.overflow_cast-result-4
overflow_cast-result-4 c = omega (arith, whole c.before.before.before.before.before.before, bytes c.before)

pub given-requires : goal.given-requires
given-requires c t = omega (arith, named _ _ (rw c.version-v.ensures at t) c.requires.3)

pub returns : goal.returns
returns c = rw (size c.before.before.before.before, bytes c.before.before.before, c.given.ensures, c.given-2.ensures, c.version-v.ensures)
