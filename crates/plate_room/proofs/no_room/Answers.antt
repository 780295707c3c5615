-- Each way out is one part of the definition's "or"; no sum wraps, since a plate is short and a picture's bytes fit.
use mathlib.Core.Path.{◌≡◌, ◌∙◌}
use Prim.Native.Nat.{◌+◌, ◌≤◌}
use native.Mathlib.Omega.{arith}
use borrow.Author.Tests.{lt-ltb, le-ltb}
use lib.ListN.{length}
use Rattle.picture.specs.Planes.{bytes_of}
use Rattle.picture.proofs.Sizes.{full_sized, area}
use Rattle.plate_numbers.specs.Numbers.{version, count, entry_size, largest_whole}
use Rattle.plate_format.specs.Format.{max_count}
use Rattle.plate_format.proofs.Rules.{plate_tabled}
use Rattle.plate_numbers.proofs.Versions.{entry_room}
use Rattle.plate_room.specs.Room.{length_after, no_room}
use Rattle.plate_room.proofs.Room.{plate_small}
use Rattle.plate_room.proofs.no_room.Goals as goal
use Rattle.plate_room.proofs.no_room.Goals.{Start}
use Rattle.plate_room.proofs.no_room.Lts as lts
use Rattle.plate_room.proofs.no_room.Reads as reads
use Rattle.plate_room.proofs.no_room.Tie as tie

abbrev the_Else-count-gt-MAX_COUNT : Type 0
the_Else-count-gt-MAX_COUNT = lts.Else1 tie.the-claims reads.Pre reads.Post

abbrev the_After-entry_size : Type 0
the_After-entry_size = lts.After-entry_size tie.the-claims reads.Pre reads.Post

abbrev the_After-bytes : Type 0
the_After-bytes = lts.After-bytes tie.the-claims reads.Pre reads.Post

abbrev the_After-largest_whole : Type 0
the_After-largest_whole = lts.After-largest_whole tie.the-claims reads.Pre reads.Post

-- the header is there
header : (c : Start) → 4 ≤ length c.args.plate.now
header c = omega (arith, (plate_tabled _ c.requires.0).inside)

pub count-requires : goal.count-requires
count-requires c = header c.before.before

pub overflow_add-count : goal.overflow_add-count
overflow_add-count c = omega (arith, c.count.ensures, (plate_tabled _ c.requires.0).few)

pub returns-then-count-gt-MAX_COUNT : goal.returns-then-count-gt-MAX_COUNT
unfolding no_room max_count
returns-then-count-gt-MAX_COUNT c = rw (lt-ltb 64 (count c.args.plate.now + 1) (omega (arith, c.count.ensures)))

pub version-v-requires : goal.version-v-requires
version-v-requires c = header c.before.before.before.before

-- the entry's size is the version's
size : (c : the_After-entry_size) → c.entry_size.result ≡ entry_size (version c.args.plate.now)
size c = c.entry_size.ensures ∙ rw c.version-v.ensures

pub overflow_add-whole : goal.overflow_add-whole
overflow_add-whole c = omega (arith, size c.before, entry_room (version c.args.plate.now), plate_small _ c.requires.0)

pub bytes-requires : goal.bytes-requires
bytes-requires c = rw c.full_size.ensures (full_sized _ _ c.requires.1)

-- the picture's bytes
bytes : (c : the_After-bytes) → c.bytes.result ≡ bytes_of c.args.w c.args.h
bytes c = c.bytes.ensures ∙ rw c.full_size.ensures

pub overflow_add-whole-2 : goal.overflow_add-whole-2
overflow_add-whole-2 c =
    omega (arith, size c.before.before.before, bytes c.before, entry_room (version c.args.plate.now), plate_small _ c.requires.0, area (full_sized _ _ c.requires.1))

-- the sum is the plate's new length
whole : (c : the_After-bytes) → length c.args.plate.now + c.entry_size.result + c.bytes.result ≡ length_after c.args.plate.now c.args.w c.args.h
unfolding length_after
whole c = rw (size c.before.before, bytes c)

-- there is a place in the table
few : (c : the_Else-count-gt-MAX_COUNT) → count c.args.plate.now + 1 ≤ 64
few c = omega (arith, c.count.ensures)

-- the most bytes of this version
limit : (c : the_After-largest_whole) → c.largest_whole.result ≡ largest_whole (version c.args.plate.now)
limit c = c.largest_whole.ensures ∙ rw c.version-v.ensures

pub returns-then-largest_whole-whole : goal.returns-then-largest_whole-whole
unfolding no_room max_count
returns-then-largest_whole-whole c =
    let a = c.args in
    let file = a.plate.now in
    rw (le-ltb 64 (count file + 1) (few c.before.before.before.before.before.before.before), lt-ltb (largest_whole (version file)) (length_after file a.w a.h) (omega (arith, whole c.before.before.before, limit c.before.before)))

pub returns : goal.returns
unfolding no_room max_count
returns c =
    let a = c.args in
    let file = a.plate.now in
    rw (le-ltb 64 (count file + 1) (few c.before.before.before.before.before.before.before), le-ltb (largest_whole (version file)) (length_after file a.w a.h) (omega (arith, whole c.before.before.before, limit c.before.before)), whole c.before.before.before)
