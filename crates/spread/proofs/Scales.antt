-- Laws of the spread's scale, 2·4^n: the shift that makes it, and how large it, the decimation term and the spread can be.
use mathlib.Core.Path.{◌≡◌, refl}
use mathlib.Core.List.{List}
use Prim.Native.Nat.{ℕ, zero, suc, ◌*◌, ◌^◌, ◌%◌, ◌≤◌, ◌<◌}
use native.Mathlib.Nat.{pow-suc, pow-le-pow_right, one-le-pow, mod-eq_of_lt, mul-le-mul}
use native.Mathlib.Omega.{arith}
use mathlib.Core.Bool.{false}
use borrow.Author.Tests.{ltb-false}
use lib.Dec.{lit<}
use lib.Ieee.{Float}
use Rattle.picture.specs.Refusal.{max_decimations, too_deep}
use Rattle.spread.specs.Spread.{moment_of, decimation_term, spread_of, WholeKernel}
use Rattle.spread.proofs.Moments.{moment_fits}

four_is : (n : ℕ) → 2 ^ (2 * n) ≡ 4 ^ n
four_is zero = refl
four_is (suc n) =
    let e : 2 * suc n ≡ suc (suc (2 * n)) = omega arith in
    rw (e, pow-suc 2 (suc (2 * n)), pow-suc 2 (2 * n), pow-suc 4 n, four_is n) (omega arith)

pub four_pos : (n : ℕ) → 1 ≤ 4 ^ n
four_pos n = one-le-pow n 4 (lit< tt)

-- there is room for 15 decimations, and the most that are accepted are no more
pub depth_fits : (n : ℕ) → n ≤ max_decimations → n ≤ 15
unfolding max_decimations
depth_fits n l = omega arith

-- what check 6 lets through
pub shallow : (n : ℕ) → too_deep n ≡ false → n ≤ max_decimations
unfolding too_deep
shallow n e = ltb-false max_decimations n e

module _ (n : ℕ) (l : n ≤ 15) where
  -- the scale has room
  pub scale_fits : 2 * 4 ^ n ≤ 2147483648
  scale_fits = omega (arith, pow-le-pow_right {n = 4} (lit< tt) {i = n} {j = 15} l)

  pub shifted : (2 * 2 ^ (2 * n)) % 2 ^ 64 ≡ 2 * 4 ^ n
  shifted = rw (four_is n) (mod-eq_of_lt (omega (arith, scale_fits)))

  -- so has its product with a number that is not above 2^32
  pub scaled_fits : (m : ℕ) → m ≤ 4294967296 → 2 * 4 ^ n * m ≤ 9223372036854775808
  scaled_fits m h = mul-le-mul {n₁ = 2 * 4 ^ n} {m₁ = m} {n₂ = 2147483648} {m₂ = 4294967296} scale_fits h

  -- and so have the decimation term, and the spread of every kernel that is reported
  term_fits : decimation_term n < 70368744177664
  unfolding decimation_term
  term_fits = omega (arith, scale_fits)

  pub spread_fits : (ws : List Float) → WholeKernel ws → spread_of ws n < 18446744073709551616
  unfolding spread_of
  spread_fits ws k = omega (arith, scaled_fits (moment_of ws) (moment_fits ws k), term_fits)
