-- A rule laid over the first entries of a table: what it has at each place, and that a loop over them leaves it.
use Rattle.std.proofs.Common.{◌≡◌, ℕ, ◌+◌, ◌-◌, ◌*◌, ◌<◌, ◌≤◌, List, length, get_or, drop, sym, refl, ap, ◌∙◌, ⊎_elim, mul_comm, arith, length-append, length-drop, get_or-drop, get_or-append-add, ext_get_or}
use lib.ListN.{get_or-append}
use Rattle.picture.specs.Build.{build}
use Rattle.picture.specs.Planes.{laid}
use Rattle.picture.specs.Spans.{Span}
use Rattle.picture.proofs.Build.{length_build, get_or-build}
use Rattle.picture.proofs.Spans.{le_or_lt, span_ends, span_at}

module _ (n : ℕ) (f : ℕ → ℕ) (old : List ℕ) where
  pub laid_below : (k : ℕ) → k < n → get_or (laid (build n f) old) k 0 ≡ f k
  unfolding laid
  laid_below k l = get_or-append (build n f) _ 0 k (omega (arith, length_build n f)) ∙ get_or-build n f k l

  pub laid_past : (k : ℕ) → n ≤ k → get_or (laid (build n f) old) k 0 ≡ get_or old k 0
  unfolding laid
  laid_past k l =
      let past : k ≡ length (build n f) + (k - n) = omega (arith, length_build n f) in
      ap (λ (j : ℕ). get_or (laid (build n f) old) j 0) past
      ∙ get_or-append-add (build n f) (drop (length (build n f)) old) (k - n) 0
      ∙ get_or-drop (length (build n f)) old (k - n) 0
      ∙ ap (λ (j : ℕ). get_or old j 0) (sym past)

  pub length_laid : n ≤ length old → length (laid (build n f) old) ≡ length old
  unfolding laid
  length_laid l = simp (length-append, length-drop, length_build) (omega arith)

  -- what a loop over these entries leaves
  span_laid : (new : List ℕ) → n ≤ length old → Span 0 old new 0 0 n f → new ≡ laid (build n f) old
  span_laid new l s =
      ext_get_or 0 new (laid (build n f) old) (s.size ∙ sym (length_laid l))
      (λ k _. ⊎_elim (λ (m : n ≤ k). s.above k (omega arith) ∙ sym (laid_past k m)) (λ (m : k < n). span_at s k (omega arith) (omega arith) m ∙ sym (laid_below k m)) (le_or_lt n k))

-- and what a loop leaves that has gone through all rows, w and h by other names
pub rows_laid : (F : ℕ → ℕ → ℕ) (old new : List ℕ) (y : ℕ) {w h v u : ℕ} → v ≡ w → u ≡ h → y ≡ u → w * h ≤ length old →
    Span 0 old new 0 0 (y * v) (F v) → new ≡ laid (build (h * w) (F w)) old
rows_laid F old new y {w} {h} p q e l s =
    span_laid (h * w) (F w) old new (omega (arith, mul_comm w h)) (span_ends (rw p at s) refl (ap (λ (k : ℕ). k * w) (e ∙ q)))
