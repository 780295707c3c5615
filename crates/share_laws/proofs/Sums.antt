-- Laws of finite sums.
use mathlib.Core.Path.{◌≡◌, refl, ◌∙◌, ap}
use mathlib.Core.Bool.{Bool, true, false}
use mathlib.Core.List.{List, [], ◌∷◌}
use Prim.Native.Nat.{ℕ, zero, suc, ◌+◌, ◌*◌, ◌≤◌, ◌<◌}
use native.Mathlib.Nat.{mul-add, mul-zero, mul-le-mul_right}
use native.Mathlib.Omega.{arith}
use lib.Dec.{eqb}
use lib.ListN.{length, get_or}
use borrow.Author.Tests.{eqb-true, eqb-false}
use Rattle.binary32.specs.Grid.{sum}
use Rattle.binary32.specs.Taps.{sum_to}

pub sum_same : (f g : ℕ → ℕ) (m : ℕ) → ((k : ℕ) → k < m → f k ≡ g k) → sum_to f m ≡ sum_to g m
unfolding sum_to
sum_same f g zero e = refl
sum_same f g (suc m) e = omega (arith, sum_same f g m (λ k l. e k (omega arith)), e m (omega arith))

pub sum_none : (f : ℕ → ℕ) (m : ℕ) → ((k : ℕ) → k < m → f k ≡ 0) → sum_to f m ≡ 0
unfolding sum_to
sum_none f zero e = refl
sum_none f (suc m) e = omega (arith, sum_none f m (λ k l. e k (omega arith)), e m (omega arith))

pub sum_plus : (f g : ℕ → ℕ) (m : ℕ) → sum_to (λ k. f k + g k) m ≡ sum_to f m + sum_to g m
unfolding sum_to
sum_plus f g zero = refl
sum_plus f g (suc m) = omega (arith, sum_plus f g m)

pub sum_times : (n : ℕ) (f : ℕ → ℕ) (m : ℕ) → sum_to (λ k. n * f k) m ≡ n * sum_to f m
unfolding sum_to
sum_times n f zero = omega (arith, mul-zero n)
sum_times n f (suc m) = omega (arith, sum_times n f m, mul-add n (sum_to f m) (f m))

-- of a sum with one part that is not 0, that part
pub sum_pick : (f : ℕ → ℕ) (m i : ℕ) → i < m → ((k : ℕ) → k < m → (k ≡ i → ⊥) → f k ≡ 0) → sum_to f m ≡ f i
unfolding sum_to
sum_pick f zero i l e = absurd (omega arith)
sum_pick f (suc m) i l e = by (eqb m i) refl (λ n. sum_pick f m i n (λ k h. e k (omega arith)))
  where
    by : (b : Bool) → eqb m i ≡ b → (i < m → sum_to f m ≡ f i) → sum_to f m + f m ≡ f i
    by true t r =
        let q : m ≡ i = eqb-true m i t in
        omega (arith, sum_none f m (λ k h. e k (omega arith) (λ p. let z : ⊥ = omega arith in z)), ap f q)
    by false t r =
        let q = eqb-false m i t in
        let n : i < m = other q in
        omega (arith, r n, e m (omega arith) q)
      where
        other : (m ≡ i → ⊥) → i < m
        other q = omega arith

sum_front : (f : ℕ → ℕ) (n : ℕ) → sum_to f (suc n) ≡ f 0 + sum_to (λ j. f (suc j)) n
unfolding sum_to
sum_front f zero = omega arith
sum_front f (suc n) = omega (arith, sum_front f n)

-- a list's sum, by its index
pub sum_is : (ms : List ℕ) → sum_to (λ j. get_or ms j 0) (length ms) ≡ sum ms
unfolding sum_to sum
sum_is [] = refl
sum_is (m ∷ ms) = sum_front (λ j. get_or (m ∷ ms) j 0) (length ms) ∙ ap (λ (k : ℕ). m + k) (sum_is ms)

-- values of at most k in weights come to at most k times the weights
pub sum_most : (f m : ℕ → ℕ) (k : ℕ) → ((j : ℕ) → f j ≤ k) → (n : ℕ) → sum_to (λ j. f j * m j) n ≤ k * sum_to m n
unfolding sum_to
sum_most f m k h zero = omega arith
sum_most f m k h (suc n) = omega (arith, sum_most f m k h n, mul-add k (sum_to m n) (m n), mul-le-mul_right (m n) (h n))
