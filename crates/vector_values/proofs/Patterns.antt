-- Numbers below a bound, and bit patterns.
use mathlib.Core.Path.{◌≡◌, ◌∙◌, refl, sym}
use mathlib.Core.Bool.{Bool, true, false, not, ◌&&◌}
use Prim.Native.Nat.{ℕ, ◌/◌, ◌%◌, ◌≤◌, ◌<◌}
use native.Mathlib.Omega.{arith}
use borrow.Author.Tests.{ltb-true, ltb-false, ne_eqb, eq-eqb}
use lib.Dec.{eqb, ltb}
use lib.Ieee.{Float, nan, inf, fin, binary32, of_bits, nan_bits, is_nan}
use lib.Ieee.Bits.{nan_bits_is}

pub quiet_nan : of_bits binary32 2143289344 ≡ nan
unfolding of_bits
quiet_nan = refl

nan_only : (x : Float) → is_nan x ≡ true → nan ≡ x
unfolding is_nan
nan_only nan h = refl
nan_only (inf s) h = cc
nan_only (fin s m e) h = cc

-- a pattern past that of infinity, but for its sign, is a NaN's
past : (b : ℕ) → 2139095040 < b % 2147483648 → nan_bits binary32 b ≡ true
unfolding nan_bits
past b h =
    rw (eq-eqb (b % 2147483648 / 8388608) 255 (omega arith), ne_eqb (b % 8388608) 0 (λ e. let z : ⊥ = omega arith in z))

pub a_nan : (b : ℕ) → 2139095040 < b % 2147483648 → nan ≡ of_bits binary32 b
a_nan b h = nan_only (of_bits binary32 b) (sym (nan_bits_is binary32 b) ∙ past b h)

-- and no other
pub no_nan : (b : ℕ) → b % 2147483648 ≤ 2139095040 → nan_bits binary32 b ≡ false
unfolding nan_bits
no_nan b h = go (ltb (b % 2147483648) 2139095040) refl
  where
    go : (t : Bool) → ltb (b % 2147483648) 2139095040 ≡ t
        → (eqb (b % 2147483648 / 8388608) 255 && not (eqb (b % 8388608) 0)) ≡ false
    go true k =
        rw (ne_eqb (b % 2147483648 / 8388608) 255 (λ e. let z : ⊥ = omega (arith, ltb-true (b % 2147483648) 2139095040 k) in z))
    go false k =
        rw (eq-eqb (b % 2147483648 / 8388608) 255 (omega (arith, ltb-false (b % 2147483648) 2139095040 k)), eq-eqb (b % 8388608) 0 (omega (arith, ltb-false (b % 2147483648) 2139095040 k)))
