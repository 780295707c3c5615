-- Laws of a sum of taps, over the tap count: it is finite and bounded, it grows with the samples, on the grid it is exact, and a sample of 0 adds nothing.
use Rattle.std.proofs.Common.{◌≡◌, ℕ, zero, suc, ◌+◌, ◌*◌, ◌/◌, ◌^◌, ◌<◌, ◌≤◌, true, false, T, pos, sym, refl, ap, ◌∙◌, subst, inl, le_trans, le_refl, mul-le-mul_right, zero-lt-suc, mul_assoc, mul_comm, add-mul, mul-le-mul, mul-pos, zero-mul, mul-one, mul_left_comm, add-one, arith, lit≤}
use native.Mathlib.Nat.{le-suc}
use lib.Ieee.{Float, binary32, round, add, mul, of_int, le, fits}
use lib.Ieee.Exact.{HasValue}
use lib.Ieee.Fits.{add-fits}
use lib.Ieee.Order.{round_mono}
use lib.Ieee.Positive.{num, den, den_pos, value→cross}
use lib.Ieee.Scale.{round_same}
use Rattle.binary32.specs.Ranges.{zero32, outside_unit, nonneg}
use Rattle.binary32.specs.Round.{to_byte}
use Rattle.binary32.specs.Grid.{on_grid, numerator}
use Rattle.binary32.specs.Taps.{tap, taps, sum_to, ByteLine, Weights, GridWeights}
use Rattle.binary32.proofs.Halves.{half_up_le}
use Rattle.binary32.proofs.Values.{plain, plain_nonneg, plain_of_value, Cross, cross→le, le→cross, add_is, add_at, round_zero, Alike, mul_is, add_alike, value→is, whole_value}
use Rattle.binary32.proofs.Ranges.{in_unit}
use Rattle.binary32.proofs.Rounded.{AtMost, rounded, grid_exact}
use Rattle.binary32.proofs.Written.{add_nothing}
use Rattle.binary32.proofs.Channels.{byte_mono, round_of}
use Rattle.binary32.proofs.Grid.{grid_in_unit, of_grid}

-- ---- one tap
-- p * k rounded, with no minus sign: a tap, but that a tap of 0 may be -0
abbrev part : ℕ → Float → Float
part p k = round binary32 false (p * num k) (den k)

tap_is : (p : ℕ) (k : Float) → p ≤ 255 → T (nonneg k) → Alike (tap p k) (part p k)
unfolding tap
tap_is p k h q =
    let x = of_int binary32 (pos p) in
    let v = whole_value p (le_trans h (lit≤ tt)) in
    subst (Alike (mul binary32 x k))
    (round_same binary32 false (num x * num k) (den x * den k) (p * num k) (den k) (mul-pos (den_pos x) (den_pos k)) (den_pos k) (crossed (num x) (num k) (den x) (den k) (sym (mul-one (num x)) ∙ value→cross x p 1 v)))
    (mul_is x k (plain_nonneg x (plain_of_value x p 1 v)) q)
  where
    crossed : (X K dx dk : ℕ) → X ≡ p * dx → X * K * dk ≡ p * K * (dx * dk)
    crossed X K dx dk h = rw h (simp (mul_assoc, mul_comm))

part_le : (p : ℕ) (k : Float) → p ≤ 255 → outside_unit k ≡ false → AtMost (part p k) 255
part_le p k h w = rounded (p * num k) (den k) 255 (den_pos k) (lit≤ tt) (mul-le-mul h (in_unit k w).1)

part_mono : (p q : ℕ) (k : Float) → p ≤ q → q ≤ 255 → outside_unit k ≡ false → Cross (part p k) (part q k)
part_mono p q k l h w =
    le→cross (part p k) (part q k) (part_le p k (le_trans l h) w).0 (part_le q k h w).0
    (round_mono binary32 (p * num k) (den k) (q * num k) (den k) (den_pos k) (den_pos k) (mul-le-mul_right (den k) (mul-le-mul_right (num k) l)))

tap_add : (acc : Float) (p : ℕ) (k : Float) → T (plain acc) → p ≤ 255 → outside_unit k ≡ false → add binary32 acc (tap p k) ≡ add binary32 acc (part p k)
tap_add acc p k a h w = add_alike acc (tap p k) (part p k) a (tap_is p k h (in_unit k w).0)

-- acc and the tap, as one rounding
tap_sum_lem : (acc : Float) (p : ℕ) (k : Float) → T (plain acc) → p ≤ 255 → outside_unit k ≡ false
    → add binary32 acc (tap p k) ≡ round binary32 false (num acc * den (part p k) + num (part p k) * den acc) (den acc * den (part p k))
tap_sum_lem acc p k a h w =
    tap_add acc p k a h w ∙ add_is acc (part p k) (plain_nonneg acc a) (plain_nonneg (part p k) (part_le p k h w).0) (inl a)

-- ---- it is finite, with no minus sign, and at most 255 for each tap
sum_le : (x dx y dy n m : ℕ) → x ≤ n * dx → y ≤ m * dy → x * dy + y * dx ≤ (n + m) * (dx * dy)
sum_le x dx y dy n m h k =
    let a : x * dy ≤ n * (dx * dy) = rw mul_assoc at (mul-le-mul_right dy h) in
    let b : y * dx ≤ m * (dx * dy) = rw (mul_assoc, mul_comm dy dx) at (mul-le-mul_right dx k) in
    omega (arith, add-mul n m (dx * dy))

tap_le : (acc : Float) (p : ℕ) (k : Float) (n : ℕ) → AtMost acc n → p ≤ 255 → outside_unit k ≡ false → n + 255 ≤ 2 ^ 24 → AtMost (add binary32 acc (tap p k)) (n + 255)
tap_le acc p k n A h w N =
    let y = part p k in
    rw (tap_sum_lem acc p k A.0 h w)
    (rounded (num acc * den y + num y * den acc) (den acc * den y) (n + 255) (mul-pos (den_pos acc) (den_pos y)) N (sum_le (num acc) (den acc) (num y) (den y) n 255 A.1 (part_le p k h w).1))

fewer : {P : ℕ → Type 0} (n : ℕ) → ((j : ℕ) → j < suc n → P j) → (j : ℕ) → j < n → P j
fewer n f j h = f j (le_trans h (le-suc n))

pub taps_bounded : (p : ℕ → ℕ) (k : ℕ → Float) (n : ℕ) → ByteLine p n → Weights k n → 255 * n ≤ 2 ^ 24 → AtMost (taps p k n) (255 * n)
unfolding taps
taps_bounded p k zero b w N = (tt, le_refl 0)
taps_bounded p k (suc n) b w N =
    subst (AtMost (add binary32 (taps p k n) (tap (p n) (k n)))) (next n)
    (tap_le (taps p k n) (p n) (k n) (255 * n) (taps_bounded p k n (fewer n b) (fewer n w) (omega arith)) (b n (le_refl (suc n))) (w n (le_refl (suc n))) (omega arith))
  where
    next : (n : ℕ) → 255 * n + 255 ≡ 255 * suc n
    next n = omega arith

-- so `round_channel` takes it
pub taps_nonneg : (p : ℕ → ℕ) (k : ℕ → Float) (n : ℕ) → ByteLine p n → Weights k n → 255 * n ≤ 2 ^ 24 → T (nonneg (taps p k n))
taps_nonneg p k n b w N = plain_nonneg (taps p k n) (taps_bounded p k n b w N).0

-- ---- it grows with the samples
side : (x d x' d' u u' : ℕ) → x * d' ≤ x' * d → x * u * (d' * u') ≤ x' * u' * (d * u)
side x d x' d' u u' h = simp (mul_assoc, mul_comm, mul_left_comm) (simp (mul_assoc, mul_comm) at (mul-le-mul_right (u * u') h))

sum_mono : (x dx y dy x' dx' y' dy' : ℕ) → x * dx' ≤ x' * dx → y * dy' ≤ y' * dy → (x * dy + y * dx) * (dx' * dy') ≤ (x' * dy' + y' * dx') * (dx * dy)
sum_mono x dx y dy x' dx' y' dy' h k =
    let a = side x dx x' dx' dy dy' h in
    let b : y * dx * (dx' * dy') ≤ y' * dx' * (dx * dy) = rw (mul_comm dx dy, mul_comm dx' dy') (side y dy y' dy' dx dx' k) in
    omega (arith, add-mul (x * dy) (y * dx) (dx' * dy'), add-mul (x' * dy') (y' * dx') (dx * dy))

tap_mono : (x y : Float) (p q : ℕ) (k : Float) (n : ℕ) → AtMost x n → AtMost y n → Cross x y → p ≤ q → q ≤ 255 → outside_unit k ≡ false → n + 255 ≤ 2 ^ 24
    → Cross (add binary32 x (tap p k)) (add binary32 y (tap q k))
tap_mono x y p q k n A B c l h w N =
    let u = part p k in
    let v = part q k in
    let h' = le_trans l h in
    le→cross (add binary32 x (tap p k)) (add binary32 y (tap q k)) (tap_le x p k n A h' w N).0 (tap_le y q k n B h w N).0
    (rw (tap_sum_lem x p k A.0 h' w, tap_sum_lem y q k B.0 h w)
    (round_mono binary32 (num x * den u + num u * den x) (den x * den u) (num y * den v + num v * den y) (den y * den v) (mul-pos (den_pos x) (den_pos u)) (mul-pos (den_pos y) (den_pos v))
    (sum_mono (num x) (den x) (num u) (den u) (num y) (den y) (num v) (den v) c (part_mono p q k l h w))))

-- no sample of p is more than that of q
abbrev pub Under : (ℕ → ℕ) → (ℕ → ℕ) → ℕ → Type 0
Under p q n = (j : ℕ) → j < n → p j ≤ q j

module _ (p q : ℕ → ℕ) (k : ℕ → Float) where
  lower : (n : ℕ) → ByteLine q n → Under p q n → ByteLine p n
  lower n b l j h = le_trans (l j h) (b j h)

  taps_cross : (n : ℕ) → ByteLine q n → Weights k n → Under p q n → 255 * n ≤ 2 ^ 24 → Cross (taps p k n) (taps q k n)
  unfolding taps
  taps_cross zero b w l N = le_refl 0
  taps_cross (suc n) b w l N =
      let m = le_refl (suc n) in
      let M : 255 * n ≤ 2 ^ 24 = omega arith in
      let B : ByteLine q n = fewer n b in
      let W : Weights k n = fewer n w in
      let L : Under p q n = fewer n l in
      tap_mono (taps p k n) (taps q k n) (p n) (q n) (k n) (255 * n) (taps_bounded p k n (lower n B L) W M) (taps_bounded q k n B W M) (taps_cross n B W L M) (l n m) (b n m) (w n m) (omega arith)

  pub taps_mono : (n : ℕ) → ByteLine q n → Weights k n → Under p q n → 255 * n ≤ 2 ^ 24 → T (le (taps p k n) (taps q k n))
  taps_mono n b w l N = cross→le (taps p k n) (taps q k n) (taps_bounded p k n (lower n b l) w N).0 (taps_bounded q k n b w N).0 (taps_cross n b w l N)

  pub channel_mono : (n : ℕ) → ByteLine q n → Weights k n → Under p q n → 255 * n ≤ 2 ^ 24 → to_byte (taps p k n) ≤ to_byte (taps q k n)
  channel_mono n b w l N = byte_mono (taps p k n) (taps q k n) (taps_cross n b w l N)

-- ---- on the grid it is exact
tap_exact : (acc : Float) (S p : ℕ) (k : Float) → HasValue acc false S 65536 → p ≤ 255 → on_grid k ≡ true → S + p * numerator k < 2 ^ 24 → HasValue (add binary32 acc (tap p k)) false (S + p * numerator k) 65536
tap_exact acc S p k v h g N =
    let m = numerator k in
    let a = plain_of_value acc S 65536 v in
    let is : part p k ≡ round binary32 false (p * m) 65536 =
    round_same binary32 false (p * num k) (den k) (p * m) 65536 (den_pos k) (zero-lt-suc 65535) (mul_assoc p (num k) 65536 ∙ ap (λ (n : ℕ). p * n) (of_grid k g).1.1 ∙ sym (mul_assoc p m (den k))) in
    let w : HasValue (part p k) false (p * m) 65536 = rw is (grid_exact (p * m) (omega arith)) in
    rw (tap_add acc p k a h (grid_in_unit k g) ∙ add_at acc (part p k) S (p * m) 65536 (zero-lt-suc 65535) (value→is acc S 65536 v) (value→is (part p k) (p * m) 65536 w) (inl a))
    (grid_exact (S + p * m) N)

module _ (p : ℕ → ℕ) (k : ℕ → Float) where
  abbrev weighed : ℕ → ℕ
  weighed = sum_to (λ j. p j * numerator (k j))

  weighed_le : (n : ℕ) → ByteLine p n → weighed n ≤ 255 * sum_to (λ j. numerator (k j)) n
  unfolding sum_to
  weighed_le zero b = le_refl 0
  weighed_le (suc n) b = omega (arith, weighed_le n (fewer n b), mul-le-mul_right (numerator (k n)) (b n (le_refl (suc n))))

  pub taps_exact : (n : ℕ) → ByteLine p n → GridWeights k n → sum_to (λ j. numerator (k j)) n ≤ 65536 → HasValue (taps p k n) false (sum_to (λ j. p j * numerator (k j)) n) 65536
  unfolding taps sum_to
  taps_exact zero b g h = (refl, refl)
  taps_exact (suc n) b g h =
      let l = le_refl (suc n) in
      let d = weighed_le (suc n) b in
      tap_exact (taps p k n) (weighed n) (p n) (k n) (taps_exact n (fewer n b) (fewer n g) (omega arith)) (b n l) (g n l) (omega arith)

  pub channel_exact : (n : ℕ) → ByteLine p n → GridWeights k n → sum_to (λ j. numerator (k j)) n ≤ 65536 → to_byte (taps p k n) ≡ (2 * sum_to (λ j. p j * numerator (k j)) n + 65536) / 131072
  unfolding to_byte
  channel_exact n b g h =
      let S = weighed n in
      let r = round_of (taps p k n) S 65536 (zero-lt-suc 65535) (value→is (taps p k n) S 65536 (taps_exact n b g h)) in
      omega (arith, half_up_le S 65536 255 (zero-lt-suc 65535) (omega (arith, weighed_le n b)))

-- ---- a sample of 0 adds nothing
pub taps_fit : (p : ℕ → ℕ) (k : ℕ → Float) (n : ℕ) → T (fits binary32 (taps p k n))
unfolding taps fits
taps_fit p k zero = tt
taps_fit p k (suc n) = add-fits binary32 (taps p k n) (tap (p n) (k n))

pub tap_nothing : (acc k : Float) → T (fits binary32 acc) → T (plain acc) → outside_unit k ≡ false → add binary32 acc (tap 0 k) ≡ acc
tap_nothing acc k F a w =
    tap_add acc 0 k a (lit≤ tt) w ∙ ap (add binary32 acc) (round_zero false (0 * num k) (den k) (den_pos k) (zero-mul (num k))) ∙ add_nothing acc F a

-- a byte 0 as a float
pub zero_wide : of_int binary32 (pos 0) ≡ zero32
unfolding of_int
zero_wide = round_zero false 0 1 (zero-lt-suc 0) refl

-- ---- for a loop over taps
pub taps_next : (p : ℕ → ℕ) (k : ℕ → Float) (n : ℕ) → taps p k (n + 1) ≡ add binary32 (taps p k n) (tap (p n) (k n))
unfolding taps
taps_next p k n = rw add-one

-- it looks at the first n samples and weights alone
pub taps_same : (p q : ℕ → ℕ) (k l : ℕ → Float) (n : ℕ) → ((j : ℕ) → j < n → p j ≡ q j) → ((j : ℕ) → j < n → k j ≡ l j) → taps p k n ≡ taps q l n
unfolding taps
taps_same p q k l zero f g = refl
taps_same p q k l (suc n) f g = rw (taps_same p q k l n (fewer n f) (fewer n g), f n (le_refl (suc n)), g n (le_refl (suc n)))
