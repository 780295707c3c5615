-- Two runs that a loop writes side by side, a value of each with every turn.
use mathlib.Core.Path.{◌≡◌, refl, sym, ◌∙◌}
use mathlib.Core.Bool.{Bool, true, false}
use mathlib.Core.List.{List}
use mathlib.Core.Logic.{◌≢◌}
use Prim.Native.Nat.{ℕ, ◌+◌, ◌<◌}
use native.Mathlib.Omega.{arith}
use borrow.Author.Tests.{eqb-true, eqb-false}
use lib.Dec.{eqb}
use lib.ListN.{length, get_or, set, length-set}
use lib.Seq.{get_or-set_same, get_or-set_other}
use Rattle.picture.specs.Spans.{Run}
use Rattle.picture.proofs.Spans.{span_none, span_more}

-- the first run alone, and then the second, behind it
pub record Pair (old new : List ℕ) (a b n : ℕ) (f g : ℕ → ℕ) : Type 0 where
  pub between : List ℕ
  pub first : Run 0 old between a n f
  pub second : Run 0 between new b n g

-- a run is the same where one value in front of it is another in both lists
run_behind : {d e : List ℕ} {b n : ℕ} {g : ℕ → ℕ} (i v : ℕ) → i < b → i < length d → Run 0 d e b n g → Run 0 (set d i v) (set e i v) b n g
run_behind {d} {e} {b} {n} {g} i v l h r =
    record {
      size = length-set e i v ∙ r.size ∙ sym (length-set d i v);
      inside = λ k u m. get_or-set_other e i (b + k) v 0 (λ z. absurd (omega arith)) ∙ r.inside k u m;
      below = λ j m. by_test j m (eqb j i) refl;
      above = λ j m. other j (λ z. absurd (omega arith)) (r.above j m);
    }
  where
    other : (j : ℕ) → j ≢ i → get_or e j 0 ≡ get_or d j 0 → get_or (set e i v) j 0 ≡ get_or (set d i v) j 0
    other j z s = get_or-set_other e i j v 0 z ∙ s ∙ sym (get_or-set_other d i j v 0 z)

    by_test : (j : ℕ) → j < b + 0 → (t : Bool) → eqb j i ≡ t → get_or (set e i v) j 0 ≡ get_or (set d i v) j 0
    by_test j m true t = rw (eqb-true j i t) (get_or-set_same e i v 0 (omega (arith, r.size)) ∙ sym (get_or-set_same d i v 0 h))
    by_test j m false t = other j (eqb-false j i t) (r.below j m)

module _ {d : List ℕ} {a b : ℕ} {f g : ℕ → ℕ} where
  -- a value more of each
  pub pair_more : {e : List ℕ} {n v w : ℕ} → Pair d e a b n f g → a + n < b → b + n < length e → v ≡ f n → w ≡ g n → Pair d (set (set e (a + n) v) (b + n) w) a b (n + 1) f g
  pair_more {e} {n} {v} {w} p l h q r =
      let m = p.between in
      let s : length e ≡ length m = p.second.size in
      record {
        between = set m (a + n) v;
        first = span_more p.first (omega arith) (omega arith) refl q;
        second = span_more (run_behind (a + n) v l (omega arith) p.second) (omega arith) (omega (arith, length-set e (a + n) v)) refl r;
      }

  -- and none has come or gone
  pub pair_size : {e : List ℕ} {n : ℕ} → Pair d e a b n f g → length e ≡ length d
  pair_size p = p.second.size ∙ p.first.size
