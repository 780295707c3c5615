-- Laws of sums: parts, pairs, bounds, and one value changed.
use Rattle.std.proofs.Common.{◌≡◌, ℕ, zero, suc, ◌+◌, ◌*◌, ◌<◌, ◌≤◌, Bool, true, false, eqb, refl, ap, ◌∙◌, add-zero, add-suc, suc-mul, arith, eqb-true}
use borrow.Author.Tests.{eqb-false}
use Rattle.picture.specs.Planes.{Line}
use Rattle.binary32.specs.Taps.{sum_to}

-- the first a, then b more
pub sum_split : (f : Line) (a b : ℕ) → sum_to f (a + b) ≡ sum_to f a + sum_to (λ i. f (a + i)) b
unfolding sum_to
sum_split f a zero = ap (sum_to f) (add-zero a) ∙ omega arith
sum_split f a (suc b) = ap (sum_to f) (add-suc a b) ∙ (let h = sum_split f a b in omega arith)

-- two at once
pub sum_add : (f g : Line) (n : ℕ) → sum_to (λ i. f i + g i) n ≡ sum_to f n + sum_to g n
unfolding sum_to
sum_add f g zero = refl
sum_add f g (suc n) = let h = sum_add f g n in omega arith

-- lines that agree
pub sum_same : (f g : Line) (n : ℕ) → ((i : ℕ) → i < n → f i ≡ g i) → sum_to f n ≡ sum_to g n
unfolding sum_to
sum_same f g zero e = refl
sum_same f g (suc n) e =
    let h = sum_same f g n (λ i l. e i (omega arith)) in
    let k = e n (omega arith) in
    omega arith

-- nothing sums to 0
pub sum_none : (n : ℕ) → sum_to (λ _. 0) n ≡ 0
unfolding sum_to
sum_none zero = refl
sum_none (suc n) = let h = sum_none n in omega arith

-- n values of at most m each
pub sum_bound : (f : Line) (m n : ℕ) → ((i : ℕ) → i < n → f i ≤ m) → sum_to f n ≤ n * m
unfolding sum_to
sum_bound f m zero e = omega arith
sum_bound f m (suc n) e =
    let h = sum_bound f m n (λ i l. e i (omega arith)) in
    let k = e n (omega arith) in
    omega (arith, suc-mul n m)

-- of lines that agree but at k, sums that hold k differ by the change there
pub sum_change : (f g : Line) (k n : ℕ) → ((i : ℕ) → i < n → (i ≡ k → ⊥) → f i ≡ g i) → k < n → sum_to f n + g k ≡ sum_to g n + f k
unfolding sum_to
sum_change f g k zero e l = absurd (omega arith)
sum_change f g k (suc n) e l = last (λ m. sum_change f g k n (λ i u. e i (omega arith)) m) (eqb n k) refl
  where
    last : (k < n → sum_to f n + g k ≡ sum_to g n + f k) → (b : Bool) → eqb n k ≡ b → sum_to f n + f n + g k ≡ sum_to g n + g n + f k
    last again true q =
        let m : n ≡ k = eqb-true n k q in
        let s : sum_to f n ≡ sum_to g n = sum_same f g n (λ i u. e i (omega arith) (λ z. omega arith)) in
        let a : f n ≡ f k = ap f m in
        let b : g n ≡ g k = ap g m in
        omega arith
    last again false q =
        let s : sum_to f n + g k ≡ sum_to g n + f k = again (omega (arith, eqb-false n k q)) in
        let a : f n ≡ g n = e n (omega arith) (eqb-false n k q) in
        omega arith
