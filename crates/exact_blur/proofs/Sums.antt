-- Values and weighted sums beside exact ones, and what a rounding to the nearest adds.
use Prim.Native.Nat.{ℕ, ◌+◌, ◌*◌, ◌/◌, ◌≤◌, ◌<◌}
use native.Mathlib.Omega.{arith}
use native.Mathlib.Nat.{mul_assoc, mul-add, add-mul, zero-mul, one-mul, mul_left_comm, mul-le-mul_left, mul-le-mul_right, div-mul-le_self, lt-div-mul-add, le_of_lt, le_of_mul-le-mul_right}

-- a is a sum of bytes in the weight w, and b is a times m to within w times e half steps, a step being m
pub record Sum (w m e a b : ℕ) : Type 0 where
  pub byte : a ≤ 255 * w
  pub low : 2 * (a * m) ≤ 2 * b + w * (e * m)
  pub high : 2 * b ≤ 2 * (a * m) + w * (e * m)

-- one byte
abbrev pub Close : ℕ → ℕ → ℕ → ℕ → Type 0
Close m e a b = Sum 1 m e a b

module _ {m e : ℕ} where
  pub sum_none : {w : ℕ} → Sum w m e 0 0
  sum_none = record { byte = omega arith; low = simp zero-mul (omega arith); high = omega arith }

  pub sum_add : {w v a b c d : ℕ} → Sum w m e a b → Sum v m e c d → Sum (w + v) m e (a + c) (b + d)
  sum_add {w} {v} {a} {b} {c} {d} p q =
      record {
        byte = omega (arith, p.byte, q.byte);
        low = simp add-mul (omega (arith, p.low, q.low));
        high = simp add-mul (omega (arith, p.high, q.high));
      }

  pub sum_times : {w a b : ℕ} (k : ℕ) → Sum w m e a b → Sum (k * w) m e (k * a) (k * b)
  sum_times {w} {a} {b} k p =
      record {
        byte = omega (arith, mul_left_comm k 255 w, mul-le-mul_left k p.byte);
        low = simp mul_assoc (omega (arith, simp (mul-add, mul_left_comm k 2) at (mul-le-mul_left k p.low)));
        high = simp mul_assoc (omega (arith, simp (mul-add, mul_left_comm k 2) at (mul-le-mul_left k p.high)));
      }

small : (f k : ℕ) → 0 < k → f * (2 * k) ≤ 511 * k → f ≤ 255
small f k pos h =
    let c : 2 * f ≤ 511 = le_of_mul-le-mul_right {m = 2 * f} {n = 511} {k = k} (rw (mul_assoc, ← mul_left_comm f 2 k) h) pos in omega arith

-- a sum in a weight of at most k, over k, rounded to the nearest: half a step more
pub rounded : {w m e a b : ℕ} (k : ℕ) → 0 < k → w ≤ k → Sum w m e a b → Close (k * m) (e + 1) ((2 * a + k) / (2 * k)) b
rounded {w} {m} {e} {a} {b} k pos fits p =
    let f = (2 * a + k) / (2 * k) in
    let down : f * (2 * k) ≤ 2 * a + k = div-mul-le_self _ _ in
    let up : 2 * a + k ≤ f * (2 * k) + 2 * k = le_of_lt (lt-div-mul-add (omega arith)) in
    let downs = simp (add-mul, mul_assoc, mul_left_comm f 2) at (mul-le-mul_right m down) in
    let ups = simp (add-mul, mul_assoc, mul_left_comm f 2) at (mul-le-mul_right m up) in
    let weight = rw (mul_left_comm k e m) at (mul-le-mul_right (e * m) fits) in
    let byte : a ≤ 255 * k = omega (arith, p.byte) in
    record {
      byte = omega (arith, small f k pos (omega arith));
      low = simp (one-mul, add-mul, mul_left_comm) (omega (arith, p.low));
      high = simp (one-mul, add-mul, mul_left_comm) (omega (arith, p.high));
    }
