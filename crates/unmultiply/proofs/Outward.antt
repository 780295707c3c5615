-- Laws of a channel outward: under an alpha that is not 0 it is the nearest whole number to 255c / a, halves upward, and so a byte.
use mathlib.Core.Path.{◌≡◌}
use Prim.Native.Nat.{ℕ, zero, suc, ◌+◌, ◌*◌, ◌/◌, ◌≤◌, ◌<◌}
use native.Mathlib.Nat.{div-mul-le_self, lt-div-mul-add, div-lt_iff_lt-mul}
use native.Mathlib.Omega.{arith}
use borrow.Author.Tests.{ne_eqb}
use Rattle.unmultiply.specs.Outward.{outward}

module _ (c a : ℕ) (some : 0 < a) where
  not_none : a ≡ 0 → ⊥
  not_none e = let z : ⊥ = omega arith in z

  pub at_most : 2 * (outward c a * a) ≤ 510 * c + a
  unfolding outward
  at_most = rw (ne_eqb a 0 not_none) (omega (arith, div-mul-le_self (255 * c + a / 2) a))

  pub at_least : 510 * c + 1 ≤ 2 * (outward c a * a) + a
  unfolding outward
  at_least = rw (ne_eqb a 0 not_none) (omega (arith, lt-div-mul-add {a = 255 * c + a / 2} some))

pub outward_byte : (c a : ℕ) → c ≤ a → outward c a < 256
unfolding outward
outward_byte c zero l = omega arith
outward_byte c (suc a) l =
    let some : 0 < suc a = omega arith in
    rw (ne_eqb (suc a) 0 (not_none c (suc a) some)) ((div-lt_iff_lt-mul {x = 255 * c + suc a / 2} some).1 (omega arith))

-- under alpha 255 a channel is as it was
pub outward_opaque : (c : ℕ) → outward c 255 ≡ c
unfolding outward
outward_opaque c = omega arith
