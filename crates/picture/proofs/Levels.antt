-- i halvings of a side s give ceil(s / 2^i).
use mathlib.Core.Path.{◌≡◌, refl, ◌∙◌, sym, ap}
use mathlib.Core.List.{[], ◌∷◌}
use Prim.Native.Nat.{ℕ, zero, suc, ◌+◌, ◌-◌, ◌*◌, ◌/◌, ◌^◌, ◌<◌}
use native.Mathlib.Omega.{arith}
use native.Mathlib.Nat.{add-zero, mul_comm, div-one, div-div-eq-div-mul, pow-suc}
use lib.Pow.{pow_pos}
use Rattle.picture.specs.Sizes.{half, level_side}

-- 5 gives 5, 3, 2, 1, 1
pub five : (level_side 0 5 ∷ level_side 1 5 ∷ level_side 2 5 ∷ level_side 3 5 ∷ level_side 4 5 ∷ []) ≡ (5 ∷ 3 ∷ 2 ∷ 1 ∷ 1 ∷ [])
unfolding level_side
five = refl

halves : (s p : ℕ) → 0 < p → half s + (p - 1) ≡ (s + (2 * p - 1)) / 2
halves s p pos = omega arith

-- level i of s, as one division upward
pub ceil_is : (i s : ℕ) → level_side i s ≡ (s + (2 ^ i - 1)) / 2 ^ i
unfolding level_side
ceil_is zero s = sym (div-one (s + 0) ∙ add-zero s)
ceil_is (suc i) s =
    ceil_is i (half s)
    ∙ ap (λ (n : ℕ). n / 2 ^ i) (halves s (2 ^ i) (pow_pos i))
    ∙ div-div-eq-div-mul (s + (2 * 2 ^ i - 1)) 2 (2 ^ i)
    ∙ rw (pow-suc 2 i, mul_comm (2 ^ i) 2)
