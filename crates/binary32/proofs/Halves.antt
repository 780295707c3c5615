-- The whole number nearest to a fraction, halves upward: it grows with the fraction, and two roundings of ties to even give it.
use Rattle.std.proofs.Common.{◌≡◌, ℕ, suc, ◌+◌, ◌*◌, ◌/◌, ◌%◌, ◌<◌, ◌≤◌, not, T, eqb, sym, ap, ◌∙◌, subst, le_of_eq, mod-lt, zero-lt-suc, mul_assoc, mul_comm, add-mul, le_antisymm, lt_of_mul-lt-mul_right, mul-pos, div-add-mod', mul_left_comm, add-one, arith, eqb→eq, leb→le}
use Prim.Native.Nat.{compare, Ordering}
use native.Mathlib.Nat.{mul-mul-mul_comm, div-div-eq-div-mul, div-eq_of_lt, div-eq_of_lt-le, add-div_right, add-mod_right, add-mul-div_right}
use lib.Arith.{lt_of_le-ne}
use lib.Dec.{is_le, compare_is_eq, nleb→lt, eqb_refl}
use lib.Ieee.{nearest}
use lib.Ieee.Nearest.{closest, div_mono}
use Rattle.binary32.specs.Round.{half_up}

twice : {c : ℕ} → 0 < c → 0 < 2 * c
twice h = mul-pos (zero-lt-suc 1) h

spread : (a c d : ℕ) → (2 * a + c) * (2 * d) ≡ 4 * (a * d) + 2 * (c * d)
spread a c d = add-mul (2 * a) c (2 * d) ∙ (rw (mul-mul-mul_comm 2 a 2 d, mul_left_comm c 2 d))

-- ---- of equal fractions it is the same, and of a larger one no smaller
pub half_up_mono : (a c b d : ℕ) → 0 < c → 0 < d → a * d ≤ b * c → half_up a c ≤ half_up b d
half_up_mono a c b d C D h =
    div_mono (2 * a + c) (2 * c) (2 * b + d) (2 * d) (twice C) (twice D) (omega (arith, spread a c d, spread b d c, mul_comm c d))

pub half_up_same : (a c b d : ℕ) → 0 < c → 0 < d → a * d ≡ b * c → half_up a c ≡ half_up b d
half_up_same a c b d C D h = le_antisymm (half_up_mono a c b d C D (le_of_eq h)) (half_up_mono b d a c D C (le_of_eq (sym h)))

-- ---- of a fraction that is at most n, or at least n
one : (n : ℕ) → (2 * n + 1) / 2 ≡ n
one n = omega arith

pub half_up_le : (a c n : ℕ) → 0 < c → a ≤ n * c → half_up a c ≤ n
half_up_le a c n C h = omega (arith, half_up_mono a c n 1 C (zero-lt-suc 0) (omega arith), one n)

pub half_up_ge : (a c n : ℕ) → 0 < c → n * c ≤ a → n ≤ half_up a c
half_up_ge a c n C h = omega (arith, half_up_mono n 1 a c (zero-lt-suc 0) C (omega arith), one n)

-- ---- by the whole part of twice the fraction
pub half_up_cut : (a c : ℕ) → 0 < c → (2 * a / c + 1) / 2 ≡ half_up a c
half_up_cut a c C =
    ap (λ (n : ℕ). n / 2) (sym (add-div_right (2 * a) C)) ∙ div-div-eq-div-mul (2 * a + c) c 2 ∙ ap (λ (n : ℕ). (2 * a + c) / n) (mul_comm c 2)

-- ---- with a whole number added
pub half_up_add : (a c n : ℕ) → 0 < c → half_up (a + n * c) c ≡ half_up a c + n
half_up_add a c n C = ap (λ (k : ℕ). k / (2 * c)) (apart a c (n * c) (n * (2 * c)) (mul_left_comm n 2 c)) ∙ add-mul-div_right (2 * a + c) n (twice C)
  where
    apart : (a c m k : ℕ) → k ≡ 2 * m → 2 * (a + m) + c ≡ 2 * a + c + k
    apart a c m k h = omega arith

-- ---- by two roundings to the nearest, a tie to the even one: of the fraction, and of the fraction and 1
abbrev Cmp : Ordering → ℕ → ℕ → Type 0
Cmp Ordering.lt a b = a < b
Cmp Ordering.eq a b = a ≡ b
Cmp Ordering.gt a b = b < a

cmp : (a b : ℕ) → Cmp (compare a b) a b
cmp a b = go (compare a b) (leb→le a b) (nleb→lt a b) (eqb→eq a b) (λ (e : a ≡ b). subst (λ (x : ℕ). T (eqb a x)) e (eqb_refl a))
  where
    go : (o : Ordering) → (T (is_le o) → a ≤ b) → (T (not (is_le o)) → b < a) → (T (compare_is_eq o) → a ≡ b) → (a ≡ b → T (compare_is_eq o)) → Cmp o a b
    go Ordering.lt h k e n = lt_of_le-ne (h tt) n
    go Ordering.eq h k e n = e tt
    go Ordering.gt h k e n = k tt

low : (r c : ℕ) → r * 2 < c → half_up r c ≡ 0
low r c h = div-eq_of_lt (omega arith)

high : (r c : ℕ) → c ≤ r * 2 → r < c → half_up r c ≡ 1
high r c h l = div-eq_of_lt-le {k = 1} (2 * c) (omega arith) (omega arith)

mean : (w r c : ℕ) (o : Ordering) → Cmp o (r * 2) c → r < c → (nearest w o + nearest (suc w) o) / 2 ≡ half_up r c + w
mean w r c Ordering.lt h l = omega (arith, low r c h)
mean w r c Ordering.eq h l = omega (arith, high r c (le_of_eq (sym h)) l)
mean w r c Ordering.gt h l = omega (arith, high r c (omega arith) l)

next : (a c : ℕ) → 0 < c → closest (a + c) c ≡ nearest (suc (a / c)) (compare (a % c * 2) c)
next a c C =
    ap (λ (r : ℕ). nearest ((a + c) / c) (compare (r * 2) c)) (add-mod_right a c)
    ∙ ap (λ (w : ℕ). nearest w (compare (a % c * 2) c)) (add-div_right a C ∙ add-one (a / c))

pub half_up_mean : (a c : ℕ) → 0 < c → (closest a c + closest (a + c) c) / 2 ≡ half_up a c
half_up_mean a c C =
    ap (λ (k : ℕ). (closest a c + k) / 2) (next a c C)
    ∙ mean (a / c) (a % c) c (compare (a % c * 2) c) (cmp (a % c * 2) c) (mod-lt a C)
    ∙ sym (half_up_add (a % c) c (a / c) C)
    ∙ ap (λ (k : ℕ). half_up k c) (swap (a / c * c) (a % c) ∙ div-add-mod' a c)
  where
    swap : (m n : ℕ) → n + m ≡ m + n
    swap m n = omega arith

-- ---- of a fraction that is less than a half away from q, one of them is enough
near : (w r c q : ℕ) (o : Ordering) → Cmp o (r * 2) c → 2 * q * c < 2 * (w * c + r) + c → 2 * (w * c + r) < 2 * q * c + c → r < c → nearest w o ≡ q
near w r c q o h a b l = by o h
  where
    -- what holds of the products with c holds of the numbers
    under : (m n : ℕ) → m * c < n * c → m < n
    under m n k = lt_of_mul-lt-mul_right c k

    low : w ≤ q
    low = omega (arith, under (2 * w) (2 * q + 1) (omega (arith, mul_assoc 2 w c, mul_assoc 2 q c, add-mul (2 * q) 1 c)))

    by : (o : Ordering) → Cmp o (r * 2) c → nearest w o ≡ q
    by Ordering.lt k = omega (arith, low, under (2 * q) (2 * w + 2) (omega (arith, mul_assoc 2 w c, mul_assoc 2 q c, add-mul (2 * w) 2 c)))
    by Ordering.eq k = absurd (omega (arith, under (2 * q) (2 * w + 2) (omega (arith, mul_assoc 2 w c, mul_assoc 2 q c, add-mul (2 * w) 2 c)), under (2 * w) (2 * q) (omega (arith, mul_assoc 2 w c, mul_assoc 2 q c))))
    by Ordering.gt k = omega (arith, under (2 * q) (2 * w + 3) (omega (arith, mul_assoc 2 w c, mul_assoc 2 q c, add-mul (2 * w) 3 c)), under (2 * w) (2 * q) (omega (arith, mul_assoc 2 w c, mul_assoc 2 q c)))

pub closest_near : (a c q : ℕ) → 0 < c → 2 * q * c < 2 * a + c → 2 * a < 2 * q * c + c → closest a c ≡ q
closest_near a c q C h k =
    let split = div-add-mod' a c in
    near (a / c) (a % c) c q (compare (a % c * 2) c) (cmp (a % c * 2) c) (rw split h) (rw split k) (mod-lt a C)
