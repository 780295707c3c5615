-- Laws of what a row makes of a line: one element worth more, an element and the whole, rows of zeros, and lines that are bounded.
use mathlib.Core.Path.{◌≡◌, refl, ◌∙◌, ap}
use mathlib.Core.Bool.{Bool, true, false, cond}
use mathlib.Core.List.{List}
use Prim.Native.Nat.{ℕ, zero, suc, ◌+◌, ◌*◌, ◌≤◌, ◌<◌}
use native.Mathlib.Nat.{add-mul, mul-one, mul-zero, zero-mul, mul_comm}
use native.Mathlib.Omega.{arith}
use borrow.Author.Tests.{eqb-true, eqb-false, eq-eqb, ne_eqb}
use lib.Dec.{eqb}
use lib.ListN.{length, get_or, set, length-set}
use lib.Seq.{get_or-set_same, get_or-set_other}
use Rattle.picture.specs.Planes.{Line}
use Rattle.binary32.specs.Taps.{sum_to}
use Rattle.share_laws.specs.Share.{unit}
use Rattle.share_laws.proofs.Sums.{sum_same, sum_none, sum_pick, sum_most}
use Rattle.back_passes.specs.Worth.{worth_of, total, Gained, Blank}

-- one part of a sum is more by e
sum_change : (f g : ℕ → ℕ) (e n i : ℕ) → i < n → ((j : ℕ) → j < n → (j ≡ i → ⊥) → f j ≡ g j) → f i ≡ g i + e → sum_to f n ≡ sum_to g n + e
unfolding sum_to
sum_change f g e zero i l h q = absurd (omega arith)
sum_change f g e (suc n) i l h q = by (eqb n i) refl (λ m. sum_change f g e n i m (λ j k. h j (omega arith)) q)
  where
    by : (b : Bool) → eqb n i ≡ b → (i < n → sum_to f n ≡ sum_to g n + e) → sum_to f n + f n ≡ sum_to g n + g n + e
    by true t r =
        let p : n ≡ i = eqb-true n i t in
        omega (arith, sum_same f g n (λ j k. h j (omega arith) (λ z. let y : ⊥ = omega arith in y)), q, ap f p, ap g p)
    by false t r =
        let p = eqb-false n i t in
        omega (arith, r (other p), h n (omega arith) p)
      where
        other : (n ≡ i → ⊥) → i < n
        other p = omega arith

pub worth_more : (row : List ℕ) (i more : ℕ) → i < length row → Gained row (set row i (get_or row i 0 + more)) (λ l. more * l i)
unfolding worth_of
worth_more row i more h l =
    let v = get_or row i 0 + more in
    rw (length-set row i v)
    (sum_change _ _ (more * l i) (length row) i h (λ j _ f. ap (λ (a : ℕ). a * l j) (get_or-set_other row i j v 0 (λ z. f z)))
    (ap (λ (a : ℕ). a * l i) (get_or-set_same row i v 0 h) ∙ add-mul (get_or row i 0) more (l i)))

-- a longer sum is no less, and so neither is a part of it
pub sum_grows : (f : ℕ → ℕ) (n m : ℕ) → n ≤ m → sum_to f n ≤ sum_to f m
unfolding sum_to
sum_grows f n zero h = let e : n ≡ 0 = omega arith in rw e (omega arith)
sum_grows f n (suc m) h = by (eqb n (suc m)) refl (λ k. sum_grows f n m k)
  where
    by : (b : Bool) → eqb n (suc m) ≡ b → (n ≤ m → sum_to f n ≤ sum_to f m) → sum_to f n ≤ sum_to f m + f m
    by true t r = let e : n ≡ suc m = eqb-true n (suc m) t in rw e (omega arith)
    by false t r = omega (arith, r (other (eqb-false n (suc m) t)))
      where
        other : (n ≡ suc m → ⊥) → n ≤ m
        other p = omega arith

pub part_le : (f : ℕ → ℕ) (n i : ℕ) → i < n → f i ≤ sum_to f n
unfolding sum_to
part_le f n i l = let all : sum_to f (suc i) ≤ sum_to f n = sum_grows f (suc i) n l in omega arith

-- parts that are 0 add nothing
pub sum_skip : (f : ℕ → ℕ) (a b : ℕ) → a ≤ b → ((k : ℕ) → a ≤ k → k < b → f k ≡ 0) → sum_to f b ≡ sum_to f a
unfolding sum_to
sum_skip f a zero h z = let e : a ≡ 0 = omega arith in rw e
sum_skip f a (suc b) h z = by (eqb a (suc b)) refl (λ k. sum_skip f a b k (λ j l m. z j l (omega arith)))
  where
    by : (t : Bool) → eqb a (suc b) ≡ t → (a ≤ b → sum_to f b ≡ sum_to f a) → sum_to f b + f b ≡ sum_to f a
    by true t r = let e : a ≡ suc b = eqb-true a (suc b) t in rw e
    by false t r = let l = other (eqb-false a (suc b) t) in omega (arith, r l, z b l (omega arith))
      where
        other : (a ≡ suc b → ⊥) → a ≤ b
        other p = omega arith

pub element_le : (row : List ℕ) (i : ℕ) → i < length row → get_or row i 0 ≤ total row
unfolding total worth_of
element_le row i l = omega (arith, part_le (λ j. get_or row j 0 * 1) (length row) i l)

pub worth_blank : (row : List ℕ) → Blank row → (l : Line) → worth_of row l ≡ 0
unfolding worth_of
worth_blank row h l = sum_none _ (length row) (λ i _. ap (λ (a : ℕ). a * l i) (h i) ∙ zero-mul (l i))

pub total_blank : (row : List ℕ) → Blank row → total row ≡ 0
unfolding total
total_blank row h = worth_blank row h (λ _. 1)

-- of a line that is 1 at i alone, element i
pub worth_unit : (row : List ℕ) (i : ℕ) → i < length row → worth_of row (unit i) ≡ get_or row i 0
unfolding worth_of
worth_unit row i l =
    sum_pick _ (length row) i l (λ k _ f. ap (λ (b : Bool). get_or row k 0 * cond b 1 0) (ne_eqb k i f) ∙ mul-zero (get_or row k 0))
    ∙ ap (λ (b : Bool). get_or row i 0 * cond b 1 0) (eq-eqb i i refl)
    ∙ mul-one (get_or row i 0)

-- of a line of at most k
pub worth_most : (row : List ℕ) (l : Line) (k : ℕ) → ((j : ℕ) → l j ≤ k) → worth_of row l ≤ k * total row
unfolding worth_of total
worth_most row l k h =
    omega (arith, sum_same (λ i. get_or row i 0 * l i) (λ i. l i * get_or row i 0) (length row) (λ i _. mul_comm (get_or row i 0) (l i)), sum_most l (λ i. get_or row i 0) k h (length row), ap (λ (a : ℕ). k * a) (sum_same (λ i. get_or row i 0 * 1) (λ i. get_or row i 0) (length row) (λ i _. mul-one (get_or row i 0))))
