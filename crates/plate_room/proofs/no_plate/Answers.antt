-- Beyond the buffer is no plate; within it the stretch decides, and then the unit.
use mathlib.Core.Path.{◌≡◌, ◌∙◌, sym}
use mathlib.Core.Bool.{true}
use native.Mathlib.Nat.{sub-zero}
use native.Mathlib.Omega.{arith}
use borrow.Author.Tests.{lt-ltb, le-ltb}
use lib.ListN.{length}
use Rattle.plate_format.specs.Format.{is_plate}
use Rattle.plate_format.proofs.Rules.{plate_tabled}
use Rattle.plate_room.specs.Room.{in_use, no_plate}
use Rattle.plate_room.proofs.no_plate.Goals as goal
use Rattle.plate_room.proofs.no_plate.Lts as lts
use Rattle.plate_room.proofs.no_plate.Reads as reads
use Rattle.plate_room.proofs.no_plate.Tie as tie

abbrev the_After-is_plate : Type 0
the_After-is_plate = lts.After-is_plate tie.the-claims reads.Pre reads.Post

abbrev the_Else-not-is_plate : Type 0
the_Else-not-is_plate = lts.Else2 tie.the-claims reads.Pre reads.Post

pub returns-then-buffer-used : goal.returns-then-buffer-used
unfolding no_plate
returns-then-buffer-used c = let a = c.args in rw (lt-ltb (length a.buffer.now) a.used (omega arith))

-- whether the stretch is a plate
asked : (c : the_After-is_plate) → c.is_plate.result ≡ is_plate (in_use c.args.buffer.now c.args.used)
asked c = c.is_plate.ensures ∙ rw (sub-zero c.args.used)

pub returns-then-not-is_plate : goal.returns-then-not-is_plate
unfolding no_plate
returns-then-not-is_plate c =
    let a = c.args in
    rw (le-ltb (length a.buffer.now) a.used (omega arith), sym (asked c.before.before) ∙ c.if-not-is_plate.true)

plate : (c : the_Else-not-is_plate) → is_plate (in_use c.args.buffer.now c.args.used) ≡ true
plate c = sym (asked c.before) ∙ c.if-not-is_plate.false

pub version-requires : goal.version-requires
version-requires c = rw (sub-zero c.args.used) (omega (arith, (plate_tabled _ (plate c.before.before)).inside))

pub returns : goal.returns
unfolding no_plate
returns c =
    let a = c.args in
    rw (le-ltb (length a.buffer.now) a.used (omega arith), plate c.before.before.before.before, c.wrong_unit.ensures, c.version.ensures, sub-zero a.used)
