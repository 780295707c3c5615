-- A signed 32-bit coordinate raised by 2^31 is a natural number, and the pair of it and 2^31 stands for the coordinate.
use Rattle.std.proofs.Common.{◌≡◌, ℕ, suc, ◌+◌, ◌-◌, ◌*◌, ◌<◌, ℤ, pos, negsuc, ◌+ℤ◌, refl, arith, w32, w64, SFits, to_z, of_z}
use lib.IntN.{sub_ℕ}
use mir.ValLaws.{to_z-of_z}
use Rattle.edges.proofs.Whole.{from_zero, below_zero}

-- 2^31, minus the least coordinate
abbrev pub depth : ℕ
depth = 2147483648

abbrev pub raised : ℤ → ℕ
raised (pos n) = n + depth
raised (negsuc n) = depth - suc n

pub raised_high : (z : ℤ) → SFits w32 z → raised z < 2 * depth
raised_high (pos n) f = omega (arith, f.sfits)
raised_high (negsuc n) f = omega arith

pub pair_raised : (z : ℤ) → SFits w32 z → sub_ℕ (raised z) depth ≡ z
pair_raised (pos n) f = from_zero (n + depth) depth n (omega arith)
pair_raised (negsuc n) f = below_zero (depth - suc n) depth n (omega (arith, f.sfits))

sum_raised : (z : ℤ) → SFits w32 z → z +ℤ pos depth ≡ pos (raised z)
sum_raised (pos n) f = refl
sum_raised (negsuc n) f = from_zero depth (suc n) (depth - suc n) (omega (arith, f.sfits))

-- what the machine reads and writes on the way is the number itself
module _ (z : ℤ) (f : SFits w32 z) where
  pub wide : SFits w64 (to_z w32 (of_z w32 z))
  wide = rw (to_z-of_z w32 z f) (record { sfits = omega (arith, f.sfits) })

  pub sum_is : to_z w64 (of_z w64 (to_z w32 (of_z w32 z))) +ℤ pos depth ≡ pos (raised z)
  sum_is = rw (to_z-of_z w64 (to_z w32 (of_z w32 z)) wide, to_z-of_z w32 z f) (sum_raised z f)

  pub sum_fits : SFits w64 (pos (raised z))
  sum_fits = record { sfits = omega (arith, raised_high z f) }

  pub sum_read : to_z w64 (of_z w64 (to_z w64 (of_z w64 (to_z w32 (of_z w32 z))) +ℤ pos depth)) ≡ pos (raised z)
  sum_read = rw sum_is (to_z-of_z w64 (pos (raised z)) sum_fits)
