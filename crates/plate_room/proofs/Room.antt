-- Laws of room: what checks 1, 10 and 13 leave, and how long a plate is.
use mathlib.Core.Path.{◌≡◌}
use mathlib.Core.Bool.{true, false, not, ◌||◌}
use mathlib.Core.List.{List}
use Prim.Native.Nat.{ℕ, ◌+◌, ◌<◌, ◌≤◌}
use native.Mathlib.Omega.{arith}
use lib.Dec.{ltb}
use lib.ListN.{length}
use borrow.Author.Tests.{ltb-false, not-false}
use Rattle.picture.specs.Refusal.{wrong_sides}
use Rattle.picture.specs.Sizes.{max_side}
use Rattle.picture.proofs.Conditions.{right_sides}
use Rattle.picture.proofs.Tests.{neither}
use Rattle.plate_numbers.specs.Numbers.{version, count, largest_whole, wrong_unit}
use Rattle.plate_format.specs.Format.{max_count, is_plate}
use Rattle.plate_format.proofs.Rules.{rules}
use Rattle.plate_numbers.proofs.Versions.{whole_small}
use Rattle.plate_room.specs.Room.{in_use, no_plate, length_after, no_room}

-- sides that check 1 lets through have room in two bytes
pub side_small : (w h : ℕ) → wrong_sides w h ≡ false → (w < 65536) × (h < 65536)
unfolding max_side
side_small w h e = let s = (right_sides w h).0 e in (omega (arith, s.0.high), omega (arith, s.1.high))

-- a plate has room in four bytes
pub plate_small : (file : List ℕ) → is_plate file ≡ true → length file ≤ 16777216
plate_small file p = omega (arith, (rules file p).whole, (whole_small (version file)).1)

-- what check 10 leaves: the stretch lies within the buffer, it is a plate, and the unit is one of its version's
pub record InPlate (buffer : List ℕ) (used unit : ℕ) : Type 0 where
  pub inside : used ≤ length buffer
  pub is_plate : is_plate (in_use buffer used) ≡ true
  pub named : wrong_unit (version (in_use buffer used)) unit ≡ false

pub in_plate : (buffer : List ℕ) (used unit : ℕ) → no_plate buffer used unit ≡ false → InPlate buffer used unit
unfolding no_plate
in_plate buffer used unit e =
    let plate = is_plate (in_use buffer used) in
    let wrong = wrong_unit (version (in_use buffer used)) unit in
    let n = neither (ltb (length buffer) used) (not plate || wrong) e in
    let m = neither (not plate) wrong n.1 in
    record { inside = ltb-false (length buffer) used n.0; is_plate = not-false plate m.0; named = m.1 }

module _ (room : ℕ) (file : List ℕ) (w h : ℕ) where
  -- what check 13 leaves: a place in the table, in the version's bytes, and in the buffer
  pub record Roomy : Type 0 where
    pub few : count file < max_count
    pub whole : length_after file w h ≤ largest_whole (version file)
    pub fits : length_after file w h ≤ room

  pub roomy : no_room room file w h ≡ false → Roomy
  unfolding no_room
  roomy e =
      let after : ℕ = length_after file w h in
      let n = neither (ltb max_count (count file + 1)) (ltb (largest_whole (version file)) after || ltb room after) e in
      let m = neither (ltb (largest_whole (version file)) after) (ltb room after) n.1 in
      record {
        few = omega (arith, ltb-false max_count (count file + 1) n.0);
        whole = ltb-false (largest_whole (version file)) after m.0;
        fits = ltb-false room after m.1;
      }
