-- Laws of a gain: which entries have it, and what a loop that adds it row by row has made so far.
use Rattle.std.proofs.Common.{◌≡◌, ℕ, ◌+◌, ◌-◌, ◌*◌, ◌/◌, ◌%◌, ◌<◌, ◌≤◌, List, get_or, sym, ap, ◌∙◌, ⊎_elim, div-lt_iff_lt-mul, arith, le-leb}
use borrow.Author.Tests.{lt-leb}
use Rattle.picture.specs.Spans.{Span}
use Rattle.picture.proofs.Planes.{quotient, remainder}
use Rattle.picture.proofs.Spans.{le_or_lt, span_none, span_join, span_same, span_ends}
use Rattle.area.specs.Area.{top, gained}
use Rattle.area.proofs.Entries.{row_ends}

module _ (table : List ℕ) (w x y gain : ℕ) where
  -- entry k where it lies left of x or above y, ..
  pub gained_not : (k : ℕ) → (x ≤ k % w → y ≤ k / w → ⊥) → gained table w x y gain k ≡ get_or table k 0
  gained_not k out =
      ⊎_elim
      (λ (u : x ≤ k % w). ⊎_elim (λ (v : y ≤ k / w). absurd (out u v)) (λ (v : k / w < y). rw (le-leb x (k % w) u, lt-leb y (k / w) v)) (le_or_lt y (k / w)))
      (λ (u : k % w < x). rw (lt-leb x (k % w) u))
      (le_or_lt x (k % w))

  -- .. and where it lies at or below and right of both
  pub gained_there : (k : ℕ) → x ≤ k % w → y ≤ k / w → gained table w x y gain k ≡ (get_or table k 0 + gain) % top
  gained_there k u v = rw (le-leb x (k % w) u, le-leb y (k / w) v)

  -- entries that no turn writes, and that do not gain
  still : {new : List ℕ} {a b : ℕ} → a ≤ b → ((k : ℕ) → a ≤ k → k < b → x ≤ k % w → y ≤ k / w → ⊥) →
      Span 0 table new 0 0 a (gained table w x y gain) → Span 0 table new 0 0 b (gained table w x y gain)
  still {new} {a} {b} l out s =
      record {
        size = s.size;
        inside = λ k u m.
            ⊎_elim
            (λ (v : a ≤ k). s.above (0 + k) (omega arith) ∙ ap (λ (j : ℕ). get_or table j 0) (omega arith) ∙ sym (gained_not k (out k v m)))
            (λ (v : k < a). s.inside k u v)
            (le_or_lt a k);
        below = s.below;
        above = λ j m. s.above j (omega arith);
      }

  -- the rows above y
  pub rows_above : 0 < w → Span 0 table table 0 0 (y * w) (gained table w x y gain)
  rows_above pos = still {a = 0} (omega arith) (λ k _ m _ v. omega (arith, (div-lt_iff_lt-mul pos).1 m)) (span_none (omega arith))

  -- one row more, from x on
  pub row_gains : {now new : List ℕ} (j : ℕ) → x < w → y ≤ j → Span 0 table now 0 0 (j * w) (gained table w x y gain) →
      Span 0 now new 0 (j * w + x) (j * w + w) (λ k. (get_or now k 0 + gain) % top) → Span 0 table new 0 0 ((j + 1) * w) (gained table w x y gain)
  row_gains {now} {new} j lx ly s t =
      span_ends
      (span_join (omega arith) (omega arith)
      (still (omega arith) (λ k a b u _. omega (arith, column k a (omega arith))) s)
      (span_same t
      (λ k a b.
      ap (λ (v : ℕ). (v + gain) % top) (s.above k (omega arith))
      ∙ sym (gained_there k (omega (arith, column k (omega arith) b)) (omega (arith, row k (omega arith) b))))))
      (omega arith)
      (sym (row_ends w j))
    where
      column : (k : ℕ) → j * w ≤ k → k < j * w + w → k % w ≡ k - j * w
      column k a b = let e : k ≡ j * w + (k - j * w) = omega arith in ap (λ (i : ℕ). i % w) e ∙ remainder w j (k - j * w) (omega arith)

      row : (k : ℕ) → j * w ≤ k → k < j * w + w → k / w ≡ j
      row k a b = let e : k ≡ j * w + (k - j * w) = omega arith in ap (λ (i : ℕ). i / w) e ∙ quotient w j (k - j * w) (omega arith)
