-- c times the scale of an alpha, both c and the product in units of 2 ^ j, is less than half a unit away from the channel divided by it, a half itself
-- taken upward. The value is held between steps of a grid that is the finer the smaller it is.
use mathlib.Core.Path.{◌≡◌, refl, sym, ap, ◌∙◌}
use mathlib.Core.Logic.{⊎_elim}
use Prim.Native.Nat.{ℕ, zero, suc, ◌+◌, ◌-◌, ◌*◌, ◌^◌, ◌≤◌, ◌<◌}
use native.Mathlib.Nat.{le_trans, le_of_eq, zero-mul, mul-pos, mul_comm, mul_assoc, mul_left_comm, mul-mul-mul_comm, mul-add, add-mul, mul-le-mul, mul-le-mul_left, mul-le-mul_right, lt_of_mul-lt-mul_right}
use native.Mathlib.Omega.{arith}
use lib.Dec.{lit≤}
use lib.IntN.{pos}
use lib.Pow.{pow_pos, pow_mono, pow-add}
use lib.Ieee.{Float, binary32, add, mul, div, of_int}
use lib.Ieee.Positive.{num, den, den_pos, value→cross}
use Rattle.picture.proofs.Spans.{le_or_lt}
use Rattle.binary32.proofs.Values.{plain_of_value, whole_value}
use Rattle.binary32.proofs.Sums.{Near}
use Rattle.composite.proofs.Between.{Grid, Between, mul_between}
use Rattle.unmultiply.specs.Outward.{outward}
use Rattle.unmultiply.proofs.Outward.{at_most, at_least, outward_byte}
use Rattle.unmultiply.proofs.Scales.{scale, scale_in}

-- the steps of a grid of 1 / 2k around q: the first above q - 1 / 2, and the last below q + 1 / 2
module _ (k q a c : ℕ) where
  pub step_low : (l : ℕ) → l + k ≡ 2 * (k * q) + 1 → 2 * (q * a) ≤ 510 * c + a → 1024 * a ≤ k * c → l * (1 * (2048 * a)) ≤ c * 522241 * (2 * k)
  step_low l e h m =
      let steps : l * a + k * a ≡ 2 * (k * (q * a)) + a = sym (add-mul l k a) ∙ ap (λ (n : ℕ). n * a) e ∙ add-mul (2 * (k * q)) 1 a ∙ rw (mul_assoc 2 (k * q) a, mul_assoc k q a) (omega arith) in
      let value : c * 522241 * (2 * k) ≡ 1044482 * (k * c) = rw (mul_comm c 522241, mul-mul-mul_comm 522241 c 2 k, mul_comm c k) in
      omega (arith, steps, value, mul-le-mul_left k h, mul_left_comm k 2 (q * a), mul-add k (510 * c) a, mul_left_comm k 510 c, mul_left_comm l 2048 a)

  pub step_high : (h : ℕ) → h + 1 ≡ 2 * (k * q) + k → 510 * c + 1 ≤ 2 * (q * a) + a → 6 * (k * c) + 2048 * a ≤ 2048 * k → c * 522243 * (2 * k) ≤ h * (1 * (2048 * a))
  step_high h e l m =
      let steps : h * a + a ≡ 2 * (k * (q * a)) + k * a = ap (λ (n : ℕ). h * a + n) (sym (one a)) ∙ sym (add-mul h 1 a) ∙ ap (λ (n : ℕ). n * a) e ∙ add-mul (2 * (k * q)) k a ∙ rw (mul_assoc 2 (k * q) a, mul_assoc k q a) in
      let value : c * 522243 * (2 * k) ≡ 1044486 * (k * c) = rw (mul_comm c 522243, mul-mul-mul_comm 522243 c 2 k, mul_comm c k) in
      omega (arith, steps, value, mul-le-mul_left k l, mul-add k (510 * c) 1, mul-add k (2 * (q * a)) a, mul_left_comm k 2 (q * a), mul_left_comm k 510 c, mul_left_comm h 2048 a)
    where
      one : (n : ℕ) → 1 * n ≡ n
      one n = omega arith

-- a value between such steps, in units of u
settled : {u g : ℕ} {x : Float} {l h : ℕ} (k q : ℕ) → 0 < u → g * u ≡ 2 * k → 2 * (k * q) + 1 ≤ l + k → h + 1 ≤ 2 * (k * q) + k → Between g x l h → Near u x q
settled {u} {g} {x} {l} {h} k q U e low high v =
    let D = den x * u in
    let d = mul-pos (den_pos x) U in
    let X = num x in
    let twice : 2 * q * D * k ≡ 2 * (k * q) * D = simp (mul_assoc, mul_comm, mul_left_comm) in
    let value : X * g * u ≡ 2 * X * k = mul_assoc X g u ∙ ap (λ (n : ℕ). X * n) e ∙ simp (mul_assoc, mul_comm, mul_left_comm) in
    let under = mul-le-mul_right D low in
    let over = mul-le-mul_right D high in
    record {
      flat = v.flat;
      above = lt_of_mul-lt-mul_right k (omega (arith, twice, value, under, add-mul (2 * (k * q)) 1 D, add-mul l k D, mul-le-mul_right u v.above.le, mul_assoc l (den x) u, add-mul (2 * X) D k, mul_comm D k));
      below = lt_of_mul-lt-mul_right k (omega (arith, twice, value, over, add-mul (2 * (k * q)) k D, add-mul h 1 D, mul-le-mul_right u v.below.le, mul_assoc h (den x) u, add-mul (2 * q * D) D k, mul_comm D k));
    }

-- a grid of 2 ^ e steps
steps_of : (e : ℕ) → e ≤ 149 → Grid (2 ^ e)
steps_of e l =
    let all : 149 - e + e ≡ 149 = omega arith in
    record {
      step = pow_pos e;
      digits = 149 - e;
      whole = sym (pow-add 2 (149 - e) e) ∙ ap (λ (n : ℕ). 2 ^ n) all;
      room = le_trans (le_of_eq (sym (pow-add 2 24 (149 - e)))) (pow_mono {j = 277} (omega arith));
    }

module _ (j c a : ℕ) (place : j ≤ 16) (low : c ≤ a) (some : 0 < a) (byte : a ≤ 255) where
  abbrev q : ℕ
  q = outward c a

  q_most : q ≤ 255
  q_most = omega (arith, outward_byte c a low)

  abbrev value : Float
  value = mul binary32 (of_int binary32 (pos (c * 2 ^ j))) (scale a)

  channel_in_lem : Between 1 (of_int binary32 (pos (c * 2 ^ j))) (c * 2 ^ j) (c * 2 ^ j)
  channel_in_lem =
      let x = of_int binary32 (pos (c * 2 ^ j)) in
      let v = whole_value (c * 2 ^ j) (le_trans (mul-le-mul (le_trans low byte) (pow_mono place)) (lit≤ tt)) in
      let e = value→cross x (c * 2 ^ j) 1 v in
      record { flat = plain_of_value x (c * 2 ^ j) 1 v; above = record { le = le_of_eq (sym e) }; below = record { le = le_of_eq e } }

  -- by a grid on which q and a half is a value, and c is not too little for a step
  by_grid : (i k l h : ℕ) → 16 ≤ i → i ≤ 149 → 2 ^ i ≡ 2 * k → h < 2 ^ 24 → 2 * (k * q) + 1 ≤ l + k → h + 1 ≡ 2 * (k * q) + k → l * (1 * (2048 * a)) ≤ c * 522241 * (2 * k) → 6 * (k * c) + 2048 * a ≤ 2048 * k → Near (2 ^ j) value q
  by_grid i k l h I R e H u o m n =
      let all : i - j + j ≡ i = omega arith in
      let apart : 2 ^ (i - j) * 2 ^ j ≡ 2 * k = sym (pow-add 2 (i - j) j) ∙ ap (λ (n : ℕ). 2 ^ n) all ∙ e in
      settled k q (pow_pos j) apart u (le_of_eq o)
      (mul_between channel_in_lem (scale_in a some byte) (steps_of (i - j) (omega arith)) l h (omega arith) H
      (record { le = rw (placed 522241 (2 ^ (i - j)), apart) m })
      (record { le = rw (placed 522243 (2 ^ (i - j)), apart) (step_high k q a c h o (at_least c a some) n) }))
    where
      placed : (n g : ℕ) → c * 2 ^ j * n * g ≡ c * n * (g * 2 ^ j)
      placed n g = simp (mul_assoc, mul_comm)

  -- c is not too little for a step where q is not too little for the grid
  enough : (k w : ℕ) → w + 1 ≡ 2 * q → 522240 ≤ k * w → 1024 * a ≤ k * c
  enough k w e h =
      let parts : w * a + a ≡ 2 * (q * a) = ap (λ (n : ℕ). w * a + n) (sym (one a)) ∙ sym (add-mul w 1 a) ∙ ap (λ (n : ℕ). n * a) e ∙ mul_assoc 2 q a in
      omega (arith, mul-le-mul_right a h, mul_assoc k w a, mul-le-mul_left k (less parts), mul_left_comm k 510 c)
    where
      one : (n : ℕ) → 1 * n ≡ n
      one n = omega arith

      less : w * a + a ≡ 2 * (q * a) → w * a ≤ 510 * c
      less p = omega (arith, at_most c a some)

  -- where q is at least 1 and not too little for the grid
  above_grid : (i k : ℕ) → 16 ≤ i → i ≤ 149 → 2 ^ i ≡ 2 * k → 0 < k → k ≤ 2 * (k * q) → 522240 ≤ k * (2 * q - 1) → 1 ≤ q → 2 * (k * q) + k - 1 < 2 ^ 24 → 6 * (k * c) + 2048 * a ≤ 2048 * k → Near (2 ^ j) value q
  above_grid i k I R e p r w o H n =
      by_grid i k (2 * (k * q) + 1 - k) (2 * (k * q) + k - 1) I R e H (omega arith) (omega arith) (step_low k q a c (2 * (k * q) + 1 - k) (omega arith) (at_most c a some) (enough k (2 * q - 1) (omega arith) w)) n

  is_near : Near (2 ^ j) value q
  is_near =
      ⊎_elim
      (λ (m : 64 ≤ q). above_grid 16 32768 (omega arith) (omega arith) refl (omega arith) (omega arith) (omega arith) (omega arith) (omega (arith, q_most)) (omega arith))
      (λ (few : q < 64).
      ⊎_elim
      (λ (m : 16 ≤ q). above_grid 18 131072 (omega arith) (omega arith) refl (omega arith) (omega arith) (omega arith) (omega arith) (omega arith) (omega arith))
      (λ (fewer : q < 16).
      ⊎_elim
      (λ (m : 1 ≤ q). above_grid 20 524288 (omega arith) (omega arith) refl (omega arith) (omega arith) (omega arith) (omega arith) (omega arith) (omega arith))
      (λ (m : q < 1). by_grid 20 524288 0 524287 (omega arith) (omega arith) refl (lit≤ tt) (omega arith) (omega arith) (omega arith) (omega arith))
      (le_or_lt 1 q))
      (le_or_lt 16 q))
      (le_or_lt 64 q)

-- under alpha 0 a channel is 0, and nothing is added
none : (j : ℕ) → Near (2 ^ j) (mul binary32 (of_int binary32 (pos 0)) (scale 0)) 0
unfolding scale add mul of_int div
none j = record { flat = tt; above = omega (arith, pow_pos j); below = omega (arith, pow_pos j) }

pub divided : (j c a : ℕ) → j ≤ 16 → c ≤ a → a ≤ 255 → Near (2 ^ j) (mul binary32 (of_int binary32 (pos (c * 2 ^ j))) (scale a)) (outward c a)
unfolding outward
divided j zero zero p l b = rw (zero-mul (2 ^ j)) (none j)
divided j (suc c) zero p l b = absurd (omega arith)
divided j c (suc a) p l b = is_near j c (suc a) p l (omega arith) b
