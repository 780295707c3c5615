-- A product with a power of two is exact, and so is a value's whole part.
use Rattle.std.proofs.Common.{◌≡◌, ℕ, zero, suc, ◌+◌, ◌-◌, ◌*◌, ◌/◌, ◌%◌, ◌^◌, ◌<◌, ◌≤◌, min, Bool, true, false, ◌&&◌, T, eqb, ltb, leb, ℤ, pos, negsuc, sym, ap, ◌∙◌, subst, le_trans, le_of_eq, lt_of_lt_of_le, lt_of_le_of_lt, mul-le-mul_right, mul_assoc, mul_comm, div-lt_iff_lt-mul, lt_of_mul-lt-mul_right, mul-lt-mul_of_pos_right, mul-pos, one-mul, lt_of_not-le, zero-mul, mul-one, mul_right_comm, not-le_of_lt, le-mul_of_pos_right, arith, lit<, lit≤, eqb→eq, ltb→lt, lt→ltb, leb→le, pow_pos, pow_mono, pow-add}
use native.Mathlib.Nat.{zero-div}
use lib.Pow.{pow-lt}
use lib.Ieee.{Float, fin, binary32, up, down, round, fits, mul, lt, to_unsigned}
use lib.Ieee.Digits.{back}
use lib.Ieee.Exact.{HasValue, round_exact}
use lib.Ieee.Fits.{up_pos, down_pos, and_l, and_r}
use lib.Ieee.Nearest.{div_same}
use lib.Ieee.Positive.{num, den, den_pos}
use Rattle.binary32.specs.Ranges.{nonneg}
use Rattle.binary32.specs.Grid.{Is}
use Rattle.binary32.proofs.Values.{on_nonneg, unsigned, lt_is, mul_is, alike_is, value→is}

-- ---- what fits binary32: few digits, no more than 149 of them after the point, and below 2 ^ 128
fits_says : (s : Bool) (m : ℕ) (e : ℤ) → T (fits binary32 (fin s m e)) → (m < 2 ^ 24) × (down e ≤ 2 ^ 149) × (m * up e < 2 ^ 128 * down e)
unfolding fits
fits_says s zero e h = (
  lit< tt,
  le_trans (le-mul_of_pos_right (down e) (up_pos e)) (le_trans (le_of_eq (mul_comm (down e) (up e) ∙ eqb→eq (up e * down e) 1 h)) (lit≤ tt)),
  lt_of_le_of_lt (le_of_eq (zero-mul (up e))) (mul-pos (pow_pos 128) (down_pos e)),
)
fits_says s (suc m) e h =
    let a = eqb (suc m % 2) 1 in
    let b = ltb (suc m) (2 ^ 24) in
    let c = leb (down e) (2 ^ 149) in
    let d = ltb (suc m * up e) (2 ^ 128 * down e) in
    let abc = and_l (a && b && c) d h in (
      ltb→lt (suc m) (2 ^ 24) (and_r a b (and_l (a && b) c abc)),
      leb→le (down e) (2 ^ 149) (and_r (a && b) c abc),
      ltb→lt (suc m * up e) (2 ^ 128 * down e) (and_r (a && b && c) d h),
    )

-- ---- m * 2 ^ e * 2 ^ k, in units of 2 ^ -149: m times a power of two
shift : ℤ → ℕ → ℕ
shift (pos a) k = a + (k + 149)
shift (negsuc a) k = k + (149 - suc a)

low_enough : (a : ℕ) → 2 ^ suc a ≤ 2 ^ 149 → suc a ≤ 149
low_enough a h = le_of_suc (lt_of_not-le (λ (g : 150 ≤ suc a). not-le_of_lt (lt_of_lt_of_le (pow-lt {i = 149} {j = 150} (lit≤ tt)) (pow_mono g)) h))
  where
    le_of_suc : suc a < 150 → suc a ≤ 149
    le_of_suc h = omega arith

units : (m : ℕ) (e : ℤ) (k : ℕ) → down e ≤ 2 ^ 149 → m * up e * 2 ^ k * 2 ^ 149 ≡ m * 2 ^ shift e k * down e
unfolding shift
units m (pos a) k h =
    mul_assoc (m * 2 ^ a) (2 ^ k) (2 ^ 149)
    ∙ mul_assoc m (2 ^ a) (2 ^ k * 2 ^ 149)
    ∙ ap (λ (n : ℕ). m * n) (ap (λ (n : ℕ). 2 ^ a * n) (sym (pow-add 2 k 149)) ∙ sym (pow-add 2 a (k + 149)))
    ∙ sym (mul-one (m * 2 ^ (a + (k + 149))))
units m (negsuc a) k h =
    ap (λ (n : ℕ). n * 2 ^ k * 2 ^ 149) (mul-one m)
    ∙ mul_assoc m (2 ^ k) (2 ^ 149)
    ∙ ap (λ (n : ℕ). m * (2 ^ k * n)) (ap (λ (n : ℕ). 2 ^ n) (sym (back 149 (suc a) (low_enough a h))) ∙ pow-add 2 (149 - suc a) (suc a))
    ∙ ap (λ (n : ℕ). m * n) (sym (mul_assoc (2 ^ k) (2 ^ (149 - suc a)) (2 ^ suc a)) ∙ ap (λ (n : ℕ). n * 2 ^ suc a) (sym (pow-add 2 k (149 - suc a))))
    ∙ sym (mul_assoc m (2 ^ (k + (149 - suc a))) (2 ^ suc a))

-- x times 2 ^ k, rounded, is exact where it is below 2 ^ 128
abbrev pub Exact : ℕ → Float → Type 0
Exact k x = T (fits binary32 x) → num x * 2 ^ k < 2 ^ 128 * den x → HasValue (round binary32 false (num x * 2 ^ k) (den x)) false (num x * 2 ^ k) (den x)

as_written : (k : ℕ) (s : Bool) (m : ℕ) (e : ℤ) → Exact k (fin s m e)
as_written k s m e F h =
    let f = fits_says s m e F in
    let u = units m e k f.1 in
    let room : m * 2 ^ shift e k * down e < 2 ^ 277 * down e =
    subst (λ (n : ℕ). n < 2 ^ 277 * down e) u (lt_of_lt_of_le (mul-lt-mul_of_pos_right h (pow_pos 149)) (le_of_eq (mul_right_comm (2 ^ 128) (down e) (2 ^ 149)))) in
    round_exact binary32 false (m * up e * 2 ^ k) (down e) m (shift e k) (down_pos e) f.0 (lt_of_mul-lt-mul_right (down e) room) u

pub exact : (k : ℕ) (x : Float) → T (nonneg x) → Exact k x
exact k = on_nonneg (Exact k) (λ s m e p. as_written k s m e)

pub fits_below : (x : Float) → T (nonneg x) → T (fits binary32 x) → num x < 2 ^ 128 * den x
fits_below = on_nonneg (λ x. T (fits binary32 x) → num x < 2 ^ 128 * den x) (λ s m e p F. (fits_says s m e F).2)

-- as one operation, -0 staying -0
pub scaled : (x : Float) (k : ℕ) → T (fits binary32 x) → T (nonneg x) → num x * 2 ^ k < 2 ^ 64 * den x → Is (mul binary32 x (fin false 1 (pos k))) (num x * 2 ^ k) (den x)
scaled x k F p h =
    let a = num x * 2 ^ k in
    let is : round binary32 false (num x * (1 * 2 ^ k)) (den x * 1) ≡ round binary32 false a (den x) = rw (one-mul, mul-one (den x)) in
    alike_is (mul binary32 x (fin false 1 (pos k))) (round binary32 false (num x * (1 * 2 ^ k)) (den x * 1)) a (den x) (mul_is x (fin false 1 (pos k)) p tt)
    (rw is (value→is (round binary32 false a (den x)) a (den x) (exact k x p F (lt_of_lt_of_le h (mul-le-mul_right (den x) (lit≤ tt))))))

-- ---- the whole part, by std's cut toward zero
above_minus_one : (s : Bool) (m : ℕ) (e : ℤ) → T (nonneg (fin s m e)) → T (lt (fin true 1 (pos 0)) (fin s m e))
unfolding lt
above_minus_one false m e p = let d = down_pos e in lt→ltb 0 (1 * 1 * down e + m * up e * 1) (omega arith)
above_minus_one true m e p = let d = down_pos e in let z = unsigned true m (up e) 1 p tt in lt→ltb (m * up e * 1) (1 * 1 * down e) (omega arith)

cut : (s : Bool) (m : ℕ) (e : ℤ) → T (nonneg (fin s m e)) → m * up e < 2 ^ 64 * down e → to_unsigned 64 (fin s m e) ≡ m * up e / down e
unfolding to_unsigned
cut false m e p h = uncapped (m * up e / down e) (2 ^ 64) ((div-lt_iff_lt-mul (down_pos e)).1 h)
  where
    uncapped : (a c : ℕ) → a < c → min a (c - 1) ≡ a
    uncapped a c h = omega arith
cut true m e p h = sym (ap (λ (n : ℕ). n / down e) (sym (mul-one (m * up e)) ∙ unsigned true m (up e) 1 p tt) ∙ zero-div (down e))

-- what `truncating_f32_to_u64` asks
abbrev pub Cuttable : Float → Type 0
Cuttable y = T (lt (fin true 1 (pos 0)) y) × T (lt y (fin false 1 (pos 64)))

own_part : (y : Float) → T (nonneg y) → num y < 2 ^ 64 * den y → Cuttable y × (to_unsigned 64 y ≡ num y / den y)
own_part y p h = (
  (
    on_nonneg (λ y. T (lt (fin true 1 (pos 0)) y)) above_minus_one y p,
    subst T (sym (lt_is y (fin false 1 (pos 64)) p tt)) (lt→ltb (num y * 1) (2 ^ 64 * den y) (omega arith)),
  ),
  on_nonneg (λ y. num y < 2 ^ 64 * den y → to_unsigned 64 y ≡ num y / den y) cut y p h,
)

-- of a value that equals a / c
pub whole_part : (y : Float) (a c : ℕ) → Is y a c → 0 < c → a < 2 ^ 64 * c → Cuttable y × (to_unsigned 64 y ≡ a / c)
whole_part y a c v C h =
    let under : num y * c < 2 ^ 64 * den y * c = subst (λ (n : ℕ). n < 2 ^ 64 * den y * c) (sym v.1) (lt_of_lt_of_le (mul-lt-mul_of_pos_right h (den_pos y)) (le_of_eq (mul_right_comm (2 ^ 64) c (den y)))) in
    let w = own_part y v.0 (lt_of_mul-lt-mul_right c under) in
    (w.0, w.1 ∙ div_same (num y) (den y) a c (den_pos y) C v.1)
