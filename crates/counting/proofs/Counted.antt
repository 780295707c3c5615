-- Laws of how many places a test holds at.
use mathlib.Core.Path.{◌≡◌, refl, sym, ap, ◌∙◌}
use mathlib.Core.Bool.{Bool, true, false, cond, true≢false}
use mathlib.Core.Logic.{⊎_elim}
use Prim.Native.Nat.{ℕ, zero, suc, ◌+◌, ◌≤◌, ◌<◌}
use native.Mathlib.Nat.{add-zero}
use native.Mathlib.Numerals.{add-one}
use native.Mathlib.Omega.{arith}
use borrow.Author.Tests.{eq-eqb, ne_eqb}
use lib.Dec.{eqb}
use Rattle.picture.proofs.Spans.{le_or_lt}
use Rattle.counting.specs.Counts.{how_many}

-- one place is at most one
one_le : (b : Bool) → cond b 1 0 ≤ 1
one_le true = omega arith
one_le false = omega arith

pub many_le : (test : ℕ → Bool) (n : ℕ) → how_many test n ≤ n
unfolding how_many
many_le test zero = omega arith
many_le test (suc n) = omega (arith, many_le test n, one_le (test n))

-- one place more
pub many_more : (test : ℕ → Bool) (n : ℕ) → how_many test (n + 1) ≡ how_many test n + cond (test n) 1 0
unfolding how_many
many_more test n = rw add-one

-- places beyond the first i, counted from there
pub many_split : (test : ℕ → Bool) (i m : ℕ) → how_many test (i + m) ≡ how_many test i + how_many (λ k. test (i + k)) m
unfolding how_many
many_split test i zero = rw (add-zero i, add-zero (how_many test i))
many_split test i (suc m) =
    let e : i + suc m ≡ suc (i + m) = omega arith in
    rw (e, many_split test i m) (omega arith)

-- tests that agree
pub many_same : (f g : ℕ → Bool) (n : ℕ) → ((k : ℕ) → k < n → f k ≡ g k) → how_many f n ≡ how_many g n
unfolding how_many
many_same f g zero h = refl
many_same f g (suc n) h = rw (many_same f g n (λ k l. h k (omega arith)), h n (omega arith))

-- none, where the test fails everywhere ..
pub many_none : (test : ℕ → Bool) (n : ℕ) → ((k : ℕ) → k < n → test k ≡ false) → how_many test n ≡ 0
unfolding how_many
many_none test zero h = refl
many_none test (suc n) h = rw (many_none test n (λ k l. h k (omega arith)), h n (omega arith))

-- .. and the other way round
pub none_many : (test : ℕ → Bool) (n : ℕ) → how_many test n ≡ 0 → (k : ℕ) → k < n → test k ≡ false
unfolding how_many
none_many test zero z k l = absurd (omega arith)
none_many test (suc n) z k l = by_test (test n) refl (λ m. none_many test n m)
  where
    by_test : (b : Bool) → test n ≡ b → (how_many test n ≡ 0 → (j : ℕ) → j < n → test j ≡ false) → test k ≡ false
    by_test true t below = absurd (omega (arith, rw t at z))
    by_test false t below =
        ⊎_elim (λ (m : n ≤ k). let e : k ≡ n = omega arith in rw e t) (λ (m : k < n). below (omega (arith, rw t at z)) k m) (le_or_lt n k)

-- none of more places, where there is none beyond the first i
pub none_more : (test : ℕ → Bool) (i m : ℕ) → how_many test i ≡ 0 → ((k : ℕ) → k < m → test (i + k) ≡ false) → how_many test (i + m) ≡ 0
none_more test i m z h = omega (arith, many_split test i m, many_none (λ k. test (i + k)) m h)

-- none of fewer places, where there is none of all ..
pub fewer_none : (test : ℕ → Bool) (i n : ℕ) → i ≤ n → how_many test n ≡ 0 → how_many test i ≡ 0
fewer_none test i n l z = many_none test i (λ k m. none_many test n z k (omega arith))

-- .. and not none, where the test holds at one
pub some_many : (test : ℕ → Bool) (n k : ℕ) → k < n → test k ≡ true → eqb (how_many test n) 0 ≡ false
some_many test n k l t = ne_eqb _ 0 (λ z. true≢false (sym t ∙ none_many test n z k l))

-- none of all, where the places with none are all
pub all_none : (test : ℕ → Bool) {i n : ℕ} → i ≡ n → how_many test i ≡ 0 → true ≡ eqb (how_many test n) 0
all_none test e z = sym (eq-eqb (how_many test _) 0 (ap (how_many test) (sym e) ∙ z))
