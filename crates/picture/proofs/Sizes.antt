-- Laws of a level's size: checked sides give one, a half of one is one, and its bytes fit.
use mathlib.Core.Path.{◌≡◌}
use mathlib.Core.Bool.{false}
use mathlib.Core.List.{List}
use Prim.Native.Nat.{ℕ, ◌*◌, ◌≤◌, ◌<◌}
use native.Mathlib.Nat.{mul-le-mul, mul-le-mul_left, mul-pos}
use native.Mathlib.Omega.{arith}
use lib.ListN.{length}
use borrow.Author.Tests.{ltb-false, eqb-true, eqb-false, not-false}
use Rattle.picture.specs.Sizes.{max_side, side_room, half, half_level, level_bytes, Sides, Sized, Pictured}
use Rattle.picture.specs.Refusal.{zero_or_above, wrong_sides, wrong_length}
use Rattle.picture.specs.declared.LevelSize.{LevelSize}
use Rattle.picture.proofs.Tests.{neither}

-- the largest side has room, and room is a number that omega reads
pub side_fits : max_side ≤ side_room
unfolding max_side side_room
side_fits = omega arith

pub room_is : side_room ≡ 65536
unfolding side_room
room_is = omega arith

-- a side that check 1 lets through
side : (s : ℕ) → zero_or_above max_side s ≡ false → (1 ≤ s) × (s ≤ side_room)
unfolding zero_or_above
side s h =
    let n = neither _ _ h in
    let low = eqb-false s 0 n.0 in
    (omega arith, omega (arith, ltb-false max_side s n.1, side_fits))

-- sides that check 1 lets through have room
pub full_sized : (w h : ℕ) → wrong_sides w h ≡ false → Sides w h
unfolding wrong_sides
full_sized w h e =
    let n = neither _ _ e in
    let a = side w n.0 in
    let b = side h n.1 in
    record { w_low = a.0; w_high = a.1; h_low = b.0; h_high = b.1 }

-- a picture that checks 1 and 2 let through is whole
pub whole : (bytes : List ℕ) (w h : ℕ) → wrong_sides w h ≡ false → wrong_length (length bytes) w h ≡ false → Pictured w h bytes
unfolding wrong_length
whole bytes w h s e = record { sized = full_sized w h s; exact = eqb-true _ _ (not-false _ e) }

module _ {w h : ℕ} (z : Sides w h) where
  pub area : w * h ≤ 4294967296
  area = mul-le-mul {n₁ = w} {m₁ = h} {n₂ = 65536} {m₂ = 65536} (omega (arith, room_is, z.w_high)) (omega (arith, room_is, z.h_high))

  pub pixels : 0 < w * h
  pixels = mul-pos z.w_low z.h_low

module _ (s : LevelSize) (z : Sized s) where
  pub half_sized : Sized (half_level s)
  half_sized =
      let r = room_is in
      record {
        w_low = omega (arith, z.w_low);
        w_high = omega (arith, z.w_low, z.w_high);
        h_low = omega (arith, z.h_low);
        h_high = omega (arith, z.h_low, z.h_high);
      }

  pub half_fits : level_bytes (half_level s) ≤ level_bytes s
  half_fits =
      mul-le-mul_left 4
      (mul-le-mul {n₁ = half s.w} {m₁ = half s.h} {n₂ = s.w} {m₂ = s.h} (omega (arith, z.w_low)) (omega (arith, z.h_low)))
