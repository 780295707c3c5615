-- Laws of a span of values: none yet, one value more on either side, one part after another, and elements of several values each.
use mathlib.Core.Path.{◌≡◌, refl, ◌∙◌}
use mathlib.Core.Bool.{Bool, true, false}
use mathlib.Core.List.{List}
use mathlib.Core.Logic.{◌⊎◌, inl, inr, ⊎_elim, ◌≢◌}
use Prim.Native.Nat.{ℕ, ◌+◌, ◌-◌, ◌*◌, ◌/◌, ◌%◌, ◌≤◌, ◌<◌}
use native.Mathlib.Omega.{arith}
use native.Mathlib.Nat.{mul-le-mul_right, add-mul, one-mul}
use borrow.Author.Tests.{ltb-true, ltb-false, eqb-true, eqb-false}
use lib.Dec.{ltb, eqb}
use lib.ListN.{length, get_or, set, length-set}
use lib.Seq.{get_or-set_same, get_or-set_other}
use Rattle.picture.specs.Spans.{Span, Run}
use Rattle.picture.proofs.Planes.{quotient, remainder}

-- b or more, or below b
pub le_or_lt : (b x : ℕ) → (b ≤ x) ⊎ (x < b)
le_or_lt b x = split (ltb x b) refl
  where
    split : (t : Bool) → ltb x b ≡ t → (b ≤ x) ⊎ (x < b)
    split true e = inr (ltb-true x b e)
    split false e = inl (ltb-false x b e)

-- elements of `stride` values each, from o on: the first x of them end where the first y do, at the latest
pub scale : (o stride x y : ℕ) → x ≤ y → o + x * stride ≤ o + y * stride
scale o stride x y l = omega (arith, mul-le-mul_right {m = x} {n = y} stride l)

-- element x of n ends where they all do, at the latest
pub within : (o stride x n : ℕ) → x < n → o + x * stride + stride ≤ o + n * stride
within o stride x n l = omega (arith, scale o stride (x + 1) n (omega arith), add-mul x 1 stride, one-mul stride)

module _ {A : Type 0} {none : A} {d : List A} {o a : ℕ} {f : ℕ → A} where
  pub span_none : {b : ℕ} → b ≤ a → Span none d d o a b f
  span_none h = record { size = refl; inside = λ k l m. absurd (omega arith); below = λ j l. refl; above = λ j l. refl }

  -- value k more, next to the span on either side: it is then the values from a' up to b'
  put : {e : List A} {b j : ℕ} {v : A} (k a' b' : ℕ) → Span none d e o a b f → j < length e → j ≡ o + k → v ≡ f k → (a' ≤ a) × (b ≤ b') × (a' ≤ k) × (k < b') →
      ((x : ℕ) → a' ≤ x → x < b' → x ≢ k → (a ≤ x) × (x < b)) → Span none d (set e j v) o a' b' f
  put {e} {j = j} {v} k a' b' s h p q ends old =
      record {
        size = length-set e j v ∙ s.size;
        inside = λ x u m. by_test x u m (eqb x k) refl;
        below = λ i m. other i (omega arith) ∙ s.below i (omega arith);
        above = λ i m. other i (omega arith) ∙ s.above i (omega arith);
      }
    where
      other : (i : ℕ) → i ≢ j → get_or (set e j v) i none ≡ get_or e i none
      other i n = get_or-set_other e j i v none n

      by_test : (x : ℕ) → a' ≤ x → x < b' → (t : Bool) → eqb x k ≡ t → get_or (set e j v) (o + x) none ≡ f x
      by_test x u m true t = rw (eqb-true x k t, ← p) (get_or-set_same e j v none h ∙ q)
      by_test x u m false t =
          let n = eqb-false x k t in
          let l = old x u m n in
          other (o + x) (λ y. n (omega arith)) ∙ s.inside x l.0 l.1

  -- one value more behind it
  pub span_more : {e : List A} {b j : ℕ} {v : A} → Span none d e o a b f → a ≤ b → j < length e → j ≡ o + b → v ≡ f b → Span none d (set e j v) o a (b + 1) f
  span_more {b = b} s l h p q = put b a (b + 1) s h p q (omega arith) (λ x u m n. omega arith)

  -- and in front of it
  pub span_less : {e : List A} {b j : ℕ} {v : A} (k : ℕ) → a ≡ k + 1 → Span none d e o a b f → a ≤ b → j < length e → j ≡ o + k → v ≡ f k → Span none d (set e j v) o k b f
  span_less {b = b} k is s l h p q = put k k b s h p q (omega arith) (λ x u m n. omega arith)

  -- one part after another
  pub span_join : {e e' : List A} {b c : ℕ} → a ≤ b → b ≤ c → Span none d e o a b f → Span none e e' o b c f → Span none d e' o a c f
  span_join {b = b} ab bc s t =
      record {
        size = t.size ∙ s.size;
        inside = λ k u m. ⊎_elim (λ (n : b ≤ k). t.inside k n m) (λ (n : k < b). t.below (o + k) (omega arith) ∙ s.inside k u n) (le_or_lt b k);
        below = λ j m. t.below j (omega arith) ∙ s.below j m;
        above = λ j m. t.above j m ∙ s.above j (omega arith);
      }

module _ {A : Type 0} {none : A} {d e : List A} {o a b : ℕ} {f : ℕ → A} (s : Span none d e o a b f) where
  -- ends that are the same
  pub span_ends : {a' b' : ℕ} → a ≡ a' → b ≡ b' → Span none d e o a' b' f
  span_ends p q = rw (p, q) at s

  -- values that are equal within the span
  pub span_same : {g : ℕ → A} → ((k : ℕ) → a ≤ k → k < b → f k ≡ g k) → Span none d e o a b g
  span_same q = record { size = s.size; inside = λ k l m. s.inside k l m ∙ q k l m; below = s.below; above = s.above }

  -- value k, by its place in the whole list
  pub span_at : (k : ℕ) {j : ℕ} → j ≡ o + k → a ≤ k → k < b → get_or e j none ≡ f k
  span_at k p l m = rw p (s.inside k l m)

-- element x, of n values that are g x 0, .., g x (n - 1)
pub span_element : {A : Type 0} {none : A} {d e : List A} {o p n : ℕ} (g : ℕ → ℕ → A) (x : ℕ) → p ≡ o + x * n → Run none d e p n (g x) → Span none d e o (x * n) ((x + 1) * n) (λ i. g (i / n) (i % n))
span_element {none = none} {e = e} {o} {p} {n} g x q r =
    let next : (x + 1) * n ≡ x * n + n = omega (arith, add-mul x 1 n, one-mul n) in
    record {
      size = r.size;
      inside = λ i l m.
          let k = i - x * n in
          let short : k < n = omega arith in
          let at : i ≡ x * n + k = omega arith in
          rw (at, quotient n x k short, remainder n x k short) (span_at r k (omega arith) (omega arith) short);
      below = λ j l. r.below j (omega arith);
      above = λ j l. r.above j (omega arith);
    }
