-- A list filled from the front by a rule for each place: none yet, the element that is next, one more, and all of them.
use mathlib.Core.Path.{◌≡◌, ◌∙◌, sym}
use mathlib.Core.List.{List}
use Prim.Native.Nat.{ℕ, ◌+◌, ◌≤◌, ◌<◌}
use native.Mathlib.Omega.{arith}
use lib.ListN.{length, get_or, set}
use lib.Seq.{ext_get_or}
use Rattle.picture.specs.Build.{build}
use Rattle.picture.specs.Spans.{Run}
use Rattle.picture.proofs.Build.{length_build, get_or-build}
use Rattle.picture.proofs.Spans.{span_none, span_more, span_at}

-- the first i elements are the rule's, and the others are as they were
pub record Filling {A : Type 0} (none : A) (f : ℕ → A) (old new : List A) (i : ℕ) : Type 0 where
  pub count : i ≤ length old
  pub run : Run none old new 0 i f

module _ {A : Type 0} {none : A} {f : ℕ → A} {old : List A} where
  pub fills_none : Filling none f old old 0
  fills_none = record { count = omega arith; run = span_none (omega arith) }

  module _ {new : List A} {i : ℕ} (p : Filling none f old new i) where
    -- the element that is next is as it was
    pub fills_still : get_or new i none ≡ get_or old i none
    fills_still = p.run.above i (omega arith)

    pub fills_more : {x : A} → i < length old → x ≡ f i → Filling none f old (set new i x) (i + 1)
    fills_more l e = record { count = omega arith; run = span_more p.run (omega arith) (omega (arith, p.run.size)) (omega arith) e }

    -- a list that obeys the rule at each place
    pub fills_all : (l : List A) → length old ≤ i → length old ≡ length l → ((k : ℕ) → k < length old → f k ≡ get_or l k none) → new ≡ l
    fills_all l e long same =
        ext_get_or none new l (p.run.size ∙ long) (λ k h. span_at p.run k (omega arith) (omega arith) (omega (arith, p.run.size)) ∙ same k (omega (arith, p.run.size)))

pub fills_build : {f : ℕ → ℕ} {old new : List ℕ} {i : ℕ} → Filling 0 f old new i → length old ≤ i → new ≡ build (length old) f
fills_build {f} {old} p e = fills_all p (build (length old) f) e (sym (length_build (length old) f)) (λ k h. sym (get_or-build (length old) f k h))
