-- What is joined is 0 exactly where no pixel fails.
use mathlib.Core.Path.{◌≡◌, refl, sym, ap, ◌∙◌}
use mathlib.Core.Bool.{Bool, true, false, ◌||◌}
use mathlib.Core.List.{List}
use mathlib.Core.Logic.{⊎_elim}
use Prim.Native.Nat.{ℕ, zero, suc, ◌+◌, ◌*◌, ◌/◌, ◌%◌, ◌≤◌, ◌<◌, max}
use native.Mathlib.Nat.{add-zero, le_trans, le-max_left, le-max_right, max-le}
use native.Mathlib.Numerals.{add-one}
use native.Mathlib.Omega.{arith}
use lib.Bits.{bit_or, or_add_and, and_le_l, and_le_r}
use lib.Dec.{ltb, eqb}
use lib.ListN.{get_or}
use borrow.Author.Tests.{eqb-true, ltb-true, ltb-false, lt-ltb, le-ltb}
use Rattle.picture.proofs.Spans.{le_or_lt}
use Rattle.pixels.specs.Channels.{exceeds, exceeds_at}
use Rattle.counting.specs.Over.{over_at, over_first, joined}

-- a number joined
pub joined_more : (f : ℕ → ℕ) (n : ℕ) → joined f (n + 1) ≡ bit_or (joined f n) (f n)
unfolding joined
joined_more f n = rw add-one

both_none : (a b : ℕ) → bit_or a b ≡ 0 → (a ≡ 0) × (b ≡ 0)
both_none a b e =
    let sum = or_add_and a b in
    let left = and_le_l a b in
    let right = and_le_r a b in
    (omega arith, omega arith)

pub joined_none : (f : ℕ → ℕ) (n : ℕ) → joined f n ≡ 0 → (k : ℕ) → k < n → f k ≡ 0
unfolding joined
joined_none f zero e k l = absurd (omega arith)
joined_none f (suc n) e k l =
    let both = both_none (joined f n) (f n) e in
    ⊎_elim (λ (m : n ≤ k). let here : k ≡ n = omega arith in rw here both.1) (λ (m : k < n). joined_none f n both.0 k m) (le_or_lt n k)

pub none_joined : (f : ℕ → ℕ) (n : ℕ) → ((k : ℕ) → k < n → f k ≡ 0) → joined f n ≡ 0
unfolding joined
none_joined f zero h = refl
none_joined f (suc n) h = rw (none_joined f n (λ k l. h k (omega arith)), h n (omega arith))

-- a number below the greater of two is below either
below_max : (a x y : ℕ) → ltb a (max x y) ≡ (ltb a x || ltb a y)
below_max a x y = by (ltb a x) refl (ltb a y) refl
  where
    by : (p : Bool) → ltb a x ≡ p → (q : Bool) → ltb a y ≡ q → ltb a (max x y) ≡ (ltb a x || ltb a y)
    by true p q r = rw (p, lt-ltb a (max x y) (le_trans (ltb-true a x p) (le-max_left x y)))
    by false p true r = rw (p, r, lt-ltb a (max x y) (le_trans (ltb-true a y r) (le-max_right x y)))
    by false p false r = rw (p, r, le-ltb a (max x y) (max-le (ltb-false a x p) (ltb-false a y r)))

-- pixel i fails exactly where its greatest channel exceeds its alpha
module _ (bytes : List ℕ) (i : ℕ) where
  abbrev most : ℕ
  most = max (get_or bytes (4 * i + 0) 0) (max (get_or bytes (4 * i + 1) 0) (get_or bytes (4 * i + 2) 0))

  abbrev alpha : ℕ
  alpha = get_or bytes (4 * i + 3) 0

  fails : exceeds_at bytes i ≡ ltb alpha most
  unfolding exceeds
  fails =
      sym
      (below_max alpha (get_or bytes (4 * i + 0) 0) (max (get_or bytes (4 * i + 1) 0) (get_or bytes (4 * i + 2) 0))
      ∙ ap (λ (t : Bool). ltb alpha (get_or bytes (4 * i + 0) 0) || t) (below_max alpha (get_or bytes (4 * i + 1) 0) (get_or bytes (4 * i + 2) 0)))

  -- its first channel
  first : get_or bytes (4 * i + 0) 0 ≡ get_or bytes (4 * i) 0
  first = ap (λ (n : ℕ). get_or bytes n 0) (add-zero (4 * i))

  pub over_passes : over_at bytes (4 * i) ≡ 0 → exceeds_at bytes i ≡ false
  unfolding over_at
  over_passes e = fails ∙ le-ltb alpha most (omega (arith, first))

  pub passes_over : exceeds_at bytes i ≡ false → over_at bytes (4 * i) ≡ 0
  unfolding over_at
  passes_over e = let low = ltb-false alpha most (sym fails ∙ e) in omega (arith, first)

-- n pixels from `from` on
module _ (bytes : List ℕ) (from n : ℕ) where
  pub block_passes : joined (over_first bytes from) (4 * n) ≡ 0 → (k : ℕ) → k < n → exceeds_at bytes (from + k) ≡ false
  block_passes e k l =
      let place : 4 * from + 4 * k ≡ 4 * (from + k) = omega arith in
      let first : 4 * k % 4 ≡ 0 = omega arith in
      over_passes bytes (from + k) (rw (first, place) at (joined_none (over_first bytes from) (4 * n) e (4 * k) (omega arith)))

  pub passes_block : ((k : ℕ) → k < n → exceeds_at bytes (from + k) ≡ false) → joined (over_first bytes from) (4 * n) ≡ 0
  passes_block h = none_joined (over_first bytes from) (4 * n) (λ j l. by j l (eqb (j % 4) 0) refl)
    where
      by : (j : ℕ) → j < 4 * n → (b : Bool) → eqb (j % 4) 0 ≡ b → over_first bytes from j ≡ 0
      by j l true e =
          let place : 4 * from + j ≡ 4 * (from + j / 4) = omega (arith, eqb-true (j % 4) 0 e) in
          rw (e, place) (passes_over bytes (from + j / 4) (h (j / 4) (omega arith)))
      by j l false e = rw e
