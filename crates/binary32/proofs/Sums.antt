-- A sum with 2 ^ 23 units of 2 ^ j, or more, that is less than 2 ^ 24 is whole: the nearest whole number of units, a tie going to the even one. Its
-- bits tell it. Rounding a channel takes two such sums, and a value that is near to a whole number one alone.
use Rattle.std.proofs.Common.{◌≡◌, ℕ, ◌+◌, ◌-◌, ◌*◌, ◌/◌, ◌%◌, ◌^◌, ◌<◌, ◌≤◌, false, not, T, pos, sym, refl, ap, ◌∙◌, subst, inr, le_trans, le_of_eq, lt_of_lt_of_le, lt_of_le_of_lt, le_of_lt, mul-le-mul_right, zero-lt-suc, mul_assoc, mul_comm, div-lt_iff_lt-mul, add-mul, mul-le-mul, mul-lt-mul_of_pos_right, mul-pos, lt_of_not-le, le-div_iff_mul-le, mul-one, mul-add, mul_right_comm, not-le_of_lt, mul-div_cancel, mul_left_comm, le-add_left, arith, lit<, pow_pos, pow_mono, pow-add}
use native.Mathlib.Nat.{eq_of_mul-eq-mul_right}
use lib.Ieee.{Float, nan, inf, fin, binary32, up, down, size, round, add, to_bits, is_nan}
use lib.Ieee.Digits.{size-lt, size-le}
use lib.Ieee.Exact.{HasValue}
use lib.Ieee.Nearest.{closest, closest_mono, closest_same}
use lib.Ieee.Order.{drop}
use lib.Ieee.Positive.{num, den, den_pos, value→cross}
use lib.Ieee.Scale.{round_val, grid}
use Rattle.binary32.specs.Ranges.{nonneg}
use Rattle.binary32.specs.Round.{half_up, round_half_up}
use Rattle.binary32.proofs.Halves.{half_up_le, half_up_add, half_up_mean, closest_near}
use Rattle.binary32.proofs.Values.{plain, plain_nonneg, plain_of_value, add_at}
use Rattle.binary32.proofs.Written.{plain_told, bits_of, bits_are}

-- ---- a fraction from 2 ^ 23 up to 2 ^ 24 units of 2 ^ j rounds to a whole number of them
-- how many digits of n do not fit
drop_is : (n e : ℕ) → 2 ^ 23 * 2 ^ e ≤ n → n < 2 ^ 24 * 2 ^ e → size n - 24 ≡ e
drop_is n e h k =
    let few : size n ≤ 24 + e = size-le n (24 + e) (rw (pow-add 2 24 e) k) in
    let many : 23 + e < size n = lt_of_not-le (λ (g : size n ≤ 23 + e). not-le_of_lt (lt_of_lt_of_le (size-lt n) (pow_mono g)) (rw (pow-add 2 23 e) h)) in
    omega arith

module _ (j a c : ℕ) (C : 0 < c) where
  abbrev unit : ℕ
  unit = c * 2 ^ j

  in_units : (n : ℕ) → n * unit * 2 ^ 149 ≡ n * 2 ^ (149 + j) * c
  in_units n = rw (pow-add 2 149 j) (simp (mul_assoc, mul_comm, mul_left_comm))

  module _ (h : 2 ^ 23 * unit ≤ a) (k : a < 2 ^ 24 * unit) where
    drops : drop 24 (a * 2 ^ 149) c ≡ 149 + j
    drops =
        let lo : 2 ^ 23 * 2 ^ (149 + j) * c ≤ a * 2 ^ 149 = le_trans (le_of_eq (sym (in_units (2 ^ 23)))) (mul-le-mul_right (2 ^ 149) h) in
        let hi : a * 2 ^ 149 < 2 ^ 24 * 2 ^ (149 + j) * c = lt_of_lt_of_le (mul-lt-mul_of_pos_right k (pow_pos 149)) (le_of_eq (in_units (2 ^ 24))) in
        drop_is (a * 2 ^ 149 / c) (149 + j) ((le-div_iff_mul-le C).1 lo) ((div-lt_iff_lt-mul C).1 hi)

    grid_is : grid binary32 a c ≡ closest a unit * 2 ^ j * 2 ^ 149
    grid_is =
        ap (λ (n : ℕ). closest (a * 2 ^ 149) (c * 2 ^ n) * 2 ^ n) drops
        ∙ ap (λ (n : ℕ). n * 2 ^ (149 + j)) (closest_same (a * 2 ^ 149) (c * 2 ^ (149 + j)) a unit (mul-pos C (pow_pos (149 + j))) (mul-pos C (pow_pos j)) (mul_right_comm a (2 ^ 149) unit ∙ in_units a ∙ mul_assoc a (2 ^ (149 + j)) c ∙ ap (λ (n : ℕ). a * n) (mul_comm (2 ^ (149 + j)) c)))
        ∙ rw (pow-add 2 149 j) (simp (mul_assoc, mul_comm, mul_left_comm))

    whole_rounded : j ≤ 103 → HasValue (round binary32 false a c) false (closest a unit * 2 ^ j) 1
    whole_rounded J =
        let top : closest a unit ≤ 2 ^ 24 = closest_mono a unit (2 ^ 24) 1 (mul-pos C (pow_pos j)) (zero-lt-suc 0) (le_trans (le_of_eq (mul-one a)) (le_of_lt k)) in
        let room : grid binary32 a c < 2 ^ 277 = lt_of_le_of_lt (le_of_eq grid_is) (lt_of_le_of_lt (mul-le-mul_right (2 ^ 149) (mul-le-mul top (pow_mono J))) (lit< tt)) in
        whole (closest a unit * 2 ^ j) (round binary32 false a c) (subst (λ (n : ℕ). HasValue (round binary32 false a c) false n (2 ^ 149)) grid_is (round_val binary32 a c room))
      where
        whole : (n : ℕ) (x : Float) → HasValue x false (n * 2 ^ 149) (2 ^ 149) → HasValue x false n 1
        whole n nan v = v
        whole n (inf t) v = v
        whole n (fin t m e) v =
            (v.0, mul-one (m * up e) ∙ eq_of_mul-eq-mul_right (2 ^ 149) (pow_pos 149) (m * up e) (n * down e) (v.1 ∙ mul_right_comm n (2 ^ 149) (down e)))

-- ---- the bits of a whole number of units from 2 ^ 23 up to 2 ^ 24
module _ (j : ℕ) (x : Float) (q : ℕ) (v : HasValue x false (q * 2 ^ j) 1) where
  pub whole_told : T (not (is_nan x))
  whole_told = plain_told x (plain_of_value x (q * 2 ^ j) 1 v)

  pub whole_bits : 2 ^ 23 ≤ q → q < 2 ^ 24 → to_bits binary32 x ≡ (149 + j) * 2 ^ 23 + q
  whole_bits h k =
      let n = q * 2 ^ (149 + j) in
      let units : num x * 2 ^ 149 / den x ≡ n =
      ap (λ (m : ℕ). m / den x) (ap (λ (m : ℕ). m * 2 ^ 149) (sym (mul-one (num x)) ∙ value→cross x (q * 2 ^ j) 1 v) ∙ mul_right_comm (q * 2 ^ j) (den x) (2 ^ 149))
      ∙ mul-div_cancel (q * 2 ^ j * 2 ^ 149) (den_pos x)
      ∙ rw (pow-add 2 149 j) (simp (mul_assoc, mul_comm)) in
      let drop = drop_is n (149 + j) (mul-le-mul_right (2 ^ (149 + j)) h) (mul-lt-mul_of_pos_right k (pow_pos (149 + j))) in
      bits_are x (plain_of_value x (q * 2 ^ j) 1 v)
      ∙ ap bits_of units
      ∙ ap (λ (m : ℕ). m * 2 ^ 23 + n / 2 ^ m) drop
      ∙ ap (λ (m : ℕ). (149 + j) * 2 ^ 23 + m) (mul-div_cancel q (pow_pos (149 + j)))

-- ---- x + y for a y of b units
-- the number of units that x + y rounds to
abbrev sum : ℕ → Float → ℕ → ℕ
sum j x b = closest (num x + b * (den x * 2 ^ j)) (den x * 2 ^ j)

module _ (j : ℕ) (x y : Float) (b : ℕ) (p : T (nonneg x)) (v : HasValue y false (b * 2 ^ j) 1) where
  add_whole : add binary32 x y ≡ round binary32 false (num x + b * (den x * 2 ^ j)) (den x)
  add_whole =
      let q = plain_of_value y (b * 2 ^ j) 1 v in
      let w : num y * den x ≡ b * (den x * 2 ^ j) * den y = ap (λ (n : ℕ). n * den x) (sym (mul-one (num y)) ∙ value→cross y (b * 2 ^ j) 1 v) ∙ simp (mul_assoc, mul_comm, mul_left_comm) in
      add_at x y (num x) (b * (den x * 2 ^ j)) (den x) (den_pos x) (p, refl) (plain_nonneg y q, w) (inr q)

  whole_sum : j ≤ 103 → 8388608 ≤ b → num x + b * (den x * 2 ^ j) < 16777216 * (den x * 2 ^ j) → HasValue (add binary32 x y) false (sum j x b * 2 ^ j) 1
  whole_sum J l m = rw add_whole (whole_rounded j (num x + b * (den x * 2 ^ j)) (den x) (den_pos x) (le_trans (mul-le-mul_right (den x * 2 ^ j) l) (le-add_left _ _)) m J)

-- ---- the two sums of `nearest`, with 8388608.0 and 8388609.0: the units are 1
abbrev even32 : Float
even32 = fin false 1 (pos 23)

abbrev odd32 : Float
odd32 = fin false 8388609 (pos 0)

-- z is q, by its bits
record Reads (z : Float) (q : ℕ) : Type 0 where
  told : T (not (is_nan z))
  bits : to_bits binary32 z ≡ 1249902592 + q
  small : q ≤ 8388864

module _ (x : Float) (p : T (nonneg x)) (m : num x ≤ 255 * den x) where
  abbrev D : ℕ
  D = den x * 2 ^ 0

  one : D ≡ den x
  one = mul-one (den x)

  reads : (y : Float) (b : ℕ) → HasValue y false (b * 2 ^ 0) 1 → 8388608 ≤ b → b ≤ 8388609 → Reads (add binary32 x y) (sum 0 x b)
  reads y b v l h =
      let d : 0 < D = rw one (den_pos x) in
      let at_least_lem = mul-le-mul_right D l in
      let at_most = mul-le-mul_right D h in
      let low : 8388608 ≤ sum 0 x b = closest_mono 8388608 1 (num x + b * D) D (zero-lt-suc 0) d (omega arith) in
      let high : sum 0 x b ≤ 8388864 = closest_mono (num x + b * D) D 8388864 1 d (zero-lt-suc 0) (omega (arith, one)) in
      let w = whole_sum 0 x y b p v (omega arith) l (omega (arith, one)) in
      record { told = whole_told 0 (add binary32 x y) (sum 0 x b) w; bits = whole_bits 0 (add binary32 x y) (sum 0 x b) w low (omega arith); small = high }

  first : Reads (add binary32 x even32) (sum 0 x 8388608)
  first = reads even32 8388608 (refl, refl) (omega arith) (omega arith)

  second : Reads (add binary32 x odd32) (sum 0 x 8388609)
  second = reads odd32 8388609 (refl, refl) (omega arith) (omega arith)

  mean : (sum 0 x 8388608 + sum 0 x 8388609) / 2 ≡ round_half_up x + 8388608
  unfolding round_half_up
  mean =
      ap (λ (n : ℕ). (sum 0 x 8388608 + closest n D) / 2) (onward (num x) D)
      ∙ half_up_mean (num x + 8388608 * D) D (rw one (den_pos x))
      ∙ half_up_add (num x) D 8388608 (rw one (den_pos x))
      ∙ ap (λ (d : ℕ). half_up (num x) d + 8388608) one
    where
      onward : (X D : ℕ) → X + 8388609 * D ≡ X + 8388608 * D + D
      onward X D = omega arith

  pub first_told : T (not (is_nan (add binary32 x even32)))
  first_told = first.told

  pub second_told : T (not (is_nan (add binary32 x odd32)))
  second_told = second.told

  pub sums_fit : to_bits binary32 (add binary32 x even32) + to_bits binary32 (add binary32 x odd32) < 4294967296
  sums_fit = omega (arith, first, second)

  pub sums_round : (to_bits binary32 (add binary32 x even32) + to_bits binary32 (add binary32 x odd32)) / 2 % 256 ≡ round_half_up x
  unfolding round_half_up
  sums_round = omega (arith, first, second, mean, half_up_le (num x) (den x) 255 (den_pos x) m)

-- ---- one sum alone
-- x is less than half a unit of u away from q of them
pub record Near (u : ℕ) (x : Float) (q : ℕ) : Type 0 where
  pub flat : T (plain x)
  pub above : 2 * q * (den x * u) < 2 * num x + den x * u
  pub below : 2 * num x < 2 * q * (den x * u) + den x * u

pub near_sum : (j : ℕ) (x y : Float) (q b : ℕ) → Near (2 ^ j) x q → HasValue y false (b * 2 ^ j) 1 → j ≤ 103 → 8388608 ≤ b → q + b < 16777216 → HasValue (add binary32 x y) false ((q + b) * 2 ^ j) 1
near_sum j x y q b n v J l h =
    let D = den x * 2 ^ j in
    let p = plain_nonneg x n.flat in
    let parts : 2 * (q + b) * D ≡ 2 * q * D + 2 * (b * D) = rw (mul-add 2 q b, add-mul (2 * q) (2 * b) D, mul_assoc 2 b D) in
    let is : sum j x b ≡ q + b = closest_near (num x + b * D) D (q + b) (mul-pos (den_pos x) (pow_pos j)) (omega (arith, parts, n.above)) (omega (arith, parts, n.below)) in
    subst (λ (s : ℕ). HasValue (add binary32 x y) false (s * 2 ^ j) 1) is (whole_sum j x y b p v J l (omega (arith, parts, mul-le-mul_right D h, n.below, mul_assoc 2 (q + b) D)))
