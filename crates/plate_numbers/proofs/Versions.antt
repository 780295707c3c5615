-- Laws of what a version fixes: an entry's size, and that its numbers have room.
use mathlib.Core.Path.{◌≡◌, refl}
use mathlib.Core.Bool.{Bool, true, false, cond, ◌||◌}
use Prim.Native.Nat.{ℕ, ◌*◌, ◌<◌, ◌≤◌}
use native.Mathlib.Nat.{mul-le-mul}
use native.Mathlib.Omega.{arith}
use lib.Dec.{eqb, ltb}
use borrow.Author.Tests.{ltb-false, not-true}
use Rattle.picture.specs.Refusal.{zero_or_above}
use Rattle.picture.proofs.Tests.{neither}
use Rattle.plate_numbers.specs.Numbers.{known_to, newest, known, labelled, entry_size, larger, largest_whole}

-- an entry has 16 bytes with a label and 12 without one
pub with_label : (v : ℕ) → labelled v ≡ true → entry_size v ≡ 16
unfolding entry_size
with_label v e = rw e

pub without_label : (v : ℕ) → labelled v ≡ false → entry_size v ≡ 12
unfolding entry_size
without_label v e = rw e

pub entry_room : (v : ℕ) → (12 ≤ entry_size v) × (entry_size v ≤ 65536)
entry_room v = by (labelled v) refl
  where
    by : (b : Bool) → labelled v ≡ b → (12 ≤ entry_size v) × (entry_size v ≤ 65536)
    by true e = omega (arith, with_label v e)
    by false e = omega (arith, without_label v e)

-- a version that there is has room in two bytes, and its plates in four
pub known_small : (v : ℕ) → known v ≡ true → v < 65536
unfolding known_to newest zero_or_above
known_small v h = omega (arith, ltb-false 3 v (neither (eqb v 0) (ltb 3 v) (not-true (eqb v 0 || ltb 3 v) h)).1)

pub whole_small : (v : ℕ) → (4 ≤ largest_whole v) × (largest_whole v ≤ 16777216)
unfolding largest_whole
whole_small v = by (larger v)
  where
    by : (b : Bool) → (4 ≤ cond b 16777216 16384) × (cond b 16777216 16384 ≤ 16777216)
    by true = (omega arith, omega arith)
    by false = (omega arith, omega arith)

pub place_fits : (i v : ℕ) → i < 65536 → i * entry_size v ≤ 4294967296
place_fits i v l = mul-le-mul {n₁ = i} {m₁ = entry_size v} {n₂ = 65536} {m₂ = 65536} (omega arith) (entry_room v).1
