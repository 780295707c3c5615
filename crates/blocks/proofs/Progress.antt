-- Laws of what has been made: nothing, a run of values, one region after another.
use mathlib.Core.Path.{◌≡◌, ◌∙◌, ap}
use mathlib.Core.List.{List}
use mathlib.Core.Logic.{⊎_elim}
use Prim.Native.Nat.{ℕ, ◌+◌, ◌-◌, ◌≤◌, ◌<◌}
use native.Mathlib.Omega.{arith}
use lib.ListN.{get_or}
use Rattle.picture.specs.Spans.{Run}
use Rattle.picture.proofs.Spans.{le_or_lt, span_at}
use Rattle.blocks.specs.Blocks.{Made}

module _ {A : Type 0} {none : A} {want : ℕ → A} where
  pub made_none : {R : ℕ → Type 0} {d : List A} → ((j : ℕ) → R j → ⊥) → Made none want R d d
  made_none f = record { makes = λ j r. absurd (f j r); keeps = λ j h. h }

  -- what lies in a region that was made
  pub made_in : {R S : ℕ → Type 0} {d e : List A} → Made none want R d e → ((j : ℕ) → S j → R j) → Made none want S d e
  made_in m f = record { makes = λ j s. m.makes j (f j s); keeps = m.keeps }

  -- a run of wanted values
  pub made_run : {f : ℕ → A} {d e : List A} {o n : ℕ} → Run none d e o n f → ((k : ℕ) → k < n → f k ≡ want (o + k)) → Made none want (λ j. (o ≤ j) × (j < o + n)) d e
  made_run {f} {d} {e} {o} {n} s q =
      record {
        makes = λ j r. makes j r.0 r.1;
        keeps = λ j h.
            ⊎_elim
            (λ (l : o ≤ j). ⊎_elim (λ (m : o + n ≤ j). s.above j m ∙ h) (makes j l) (le_or_lt (o + n) j))
            (λ (l : j < o). s.below j (omega arith) ∙ h)
            (le_or_lt o j);
      }
    where
      makes : (j : ℕ) → o ≤ j → j < o + n → get_or e j none ≡ want j
      makes j l m =
          let k = j - o in
          let at : o + k ≡ j = omega arith in
          span_at s k (omega arith) (omega arith) (omega arith) ∙ q k (omega arith) ∙ ap want at

  -- one region after another: they part where a number q of each index reaches b
  pub made_join : {R S T : ℕ → Type 0} {d e e' : List A} (q : ℕ → ℕ) (b : ℕ) → Made none want R d e → Made none want S e e' →
      ((j : ℕ) → T j → q j < b → R j) → ((j : ℕ) → T j → b ≤ q j → S j) → Made none want T d e'
  made_join q b m n f g =
      record {
        makes = λ j t. ⊎_elim (λ (l : b ≤ q j). n.makes j (g j t l)) (λ (l : q j < b). n.keeps j (m.makes j (f j t l))) (le_or_lt b (q j));
        keeps = λ j h. n.keeps j (m.keeps j h);
      }
