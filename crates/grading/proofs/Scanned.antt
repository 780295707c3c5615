-- A scan that finds nothing, and a pixel at every place that passes.
use mathlib.Core.Path.{◌≡◌, refl, ap}
use mathlib.Core.Bool.{Bool, true, false, cond, true≢false}
use mathlib.Core.List.{List}
use mathlib.Core.Logic.{⊎_elim}
use Prim.Native.Nat.{ℕ, zero, suc, ◌+◌, ◌*◌, ◌≤◌, ◌<◌}
use native.Mathlib.Omega.{arith}
use borrow.Author.Tests.{ltb-false, le-ltb}
use Rattle.picture.specs.declared.Pixel.{Pixel}
use Rattle.picture.proofs.Spans.{le_or_lt}
use Rattle.picture.proofs.Tests.{neither}
use Rattle.pixels.specs.Channels.{exceeds, exceeds_at}
use Rattle.grading.specs.Premultiplied.{Finding, none, found_at, first_from, scanned}

-- no place among n from k on
none_from : (f : ℕ → Bool) (k n : ℕ) → ((j : ℕ) → k ≤ j → j < k + n → f j ≡ false) → first_from f k n ≡ none
unfolding first_from
none_from f k zero h = refl
none_from f k (suc n) h = rw (h k (omega arith) (omega arith)) (none_from f (suc k) n (λ j a b. h j (omega arith) (omega arith)))

-- the first place, and the others
first_passes : (b : Bool) (k : ℕ) (rest : Finding) → cond b (found_at k) rest ≡ none → (b ≡ false) × (rest ≡ none)
first_passes true k rest e = absurd (true≢false (ap (λ (x : Finding). x.found) e))
first_passes false k rest e = (refl, e)

from_none : (f : ℕ → Bool) (k n : ℕ) → first_from f k n ≡ none → (j : ℕ) → k ≤ j → j < k + n → f j ≡ false
unfolding first_from
from_none f k zero e j a b = absurd (omega arith)
from_none f k (suc n) e j a b =
    let p = first_passes (f k) k (first_from f (suc k) n) e in
    ⊎_elim (λ (l : suc k ≤ j). from_none f (suc k) n p.1 j l (omega arith)) (λ (l : j < suc k). let here : j ≡ k = omega arith in rw here p.0) (le_or_lt (suc k) j)

module _ (bytes : List ℕ) (w h : ℕ) where
  -- nothing is found exactly where every place passes
  pub passes_at : scanned bytes w h ≡ none → (i : ℕ) → i < w * h → exceeds_at bytes i ≡ false
  unfolding scanned
  passes_at e i l = from_none (exceeds_at bytes) 0 (w * h) e i (omega arith) (omega arith)

  pub finds_none : ((i : ℕ) → i < w * h → exceeds_at bytes i ≡ false) → scanned bytes w h ≡ none
  unfolding scanned
  finds_none f = none_from (exceeds_at bytes) 0 (w * h) (λ j a b. f j (omega arith))

-- a pixel passes exactly where no channel of it exceeds its alpha
pub below_alpha : (p : Pixel) → exceeds p ≡ false → (p.r ≤ p.a) × (p.g ≤ p.a) × (p.b ≤ p.a)
unfolding exceeds
below_alpha p e =
    let n = neither _ _ e in
    let m = neither _ _ n.1 in
    (ltb-false p.a p.r n.0, ltb-false p.a p.g m.0, ltb-false p.a p.b m.1)

pub fits_alpha : (p : Pixel) → p.r ≤ p.a → p.g ≤ p.a → p.b ≤ p.a → exceeds p ≡ false
unfolding exceeds
fits_alpha p r g b = rw (le-ltb p.a p.r r, le-ltb p.a p.g g, le-ltb p.a p.b b)
