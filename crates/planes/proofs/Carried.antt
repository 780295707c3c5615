-- Laws of bytes that are carried: one more, a pixel more, and what the forms give.
use mathlib.Core.Path.{◌≡◌, ◌∙◌, refl, sym, ap}
use mathlib.Core.Bool.{Bool, true, false}
use mathlib.Core.List.{List}
use Prim.Native.Nat.{ℕ, ◌+◌, ◌*◌, ◌/◌, ◌%◌, ◌≤◌, ◌<◌}
use native.Mathlib.Omega.{arith}
use lib.Dec.{ltb}
use lib.ListN.{length, get_or, set, length-set}
use lib.Seq.{get_or-set_same, get_or-set_other}
use borrow.Author.Tests.{ltb-true, ltb-false}
use Rattle.planes.specs.Places.{Places, Carried, with_pixel, pixelwise}

-- a byte read at one place, however it is counted
pub read : (bytes : List ℕ) {j k : ℕ} → j ≡ k → get_or bytes j 0 ≡ get_or bytes k 0
read bytes e = ap (λ (k : ℕ). get_or bytes k 0) e

-- each of the first n bytes has a place of its own
abbrev pub Own : Places → ℕ → Type 0
Own place n = (i j : ℕ) → i < n → j < n → place i ≡ place j → i ≡ j

module _ (from to : Places) (src : List ℕ) (n : ℕ) (own : Own to n) where
  -- one more is carried
  pub one_more : (dst : List ℕ) (m p v : ℕ) → m < n → p < length dst → p ≡ to m → v ≡ get_or src (from m) 0 → Carried from to src dst m → Carried from to src (set dst p v) (m + 1)
  one_more dst m p v lm lp ep ev f j lj = by (ltb j m) refl
    where
      by : (b : Bool) → ltb j m ≡ b → get_or (set dst p v) (to j) 0 ≡ get_or src (from j) 0
      by true t =
          let before : j < m = ltb-true _ _ t in
          get_or-set_other dst p (to j) v 0 (λ q. let z = own j m (omega arith) lm (q ∙ ep) in omega arith) ∙ f j before
      by false t =
          let after : m ≤ j = ltb-false _ _ t in
          let same : j ≡ m = omega arith in
          rw (same, ← ep) (get_or-set_same dst p v 0 lp ∙ ev)

-- byte 4k + c is channel c of pixel k
pub pixel_at_lem : (channel pixel j k c : ℕ) → c < 4 → j ≡ 4 * k + c → pixelwise channel pixel j ≡ c * channel + k * pixel
pixel_at_lem channel pixel j k c l e =
    let lane : j % 4 ≡ c = omega arith in
    let which : j / 4 ≡ k = omega arith in
    rw (lane, which)

-- each channel of the pixels that are carried
pub channel_at_lem : (s a d b : ℕ) (src dst : List ℕ) (m : ℕ) → Carried (pixelwise s a) (pixelwise d b) src dst (4 * m) → (c k : ℕ) → c < 4 → k < m → get_or dst (c * d + k * b) 0 ≡ get_or src (c * s + k * a) 0
channel_at_lem s a d b src dst m f c k lc lk =
    read dst (sym (pixel_at_lem d b (4 * k + c) k c lc refl)) ∙ f (4 * k + c) (omega arith) ∙ read src (pixel_at_lem s a (4 * k + c) k c lc refl)

-- a pixel whose bytes lie inside, by the places of its first and last
pub pixel_inside : (channel pixel most to k : ℕ) → ((j : ℕ) → j < 4 * to → pixelwise channel pixel j < most) → k < to → k * pixel + 3 * channel < most
pixel_inside channel pixel most to k f l = omega (arith, f (4 * k + 3) (omega arith), pixel_at_lem channel pixel (4 * k + 3) k 3 (omega arith) (omega arith))

-- one pixel more, whose channels are read s apart from p on and written d apart from q on
module _ (from to : Places) (src : List ℕ) (n : ℕ) (own : Own to n) (k p s q d : ℕ) (of : (c j : ℕ) → c < 4 → j ≡ 4 * k + c → from j ≡ p + c * s) (at : (c j : ℕ) → c < 4 → j ≡ 4 * k + c → to j ≡ q + c * d) where
  pub pixel_more : (dst : List ℕ) → 4 * k + 3 < n → q + 3 * d < length dst → Carried from to src dst (4 * k) → Carried from to src (with_pixel src p s dst q d) (4 * (k + 1))
  pixel_more dst lk room f =
      let d₁ = set dst q (get_or src p 0) in
      let d₂ = set d₁ (q + d) (get_or src (p + s) 0) in
      let d₃ = set d₂ (q + 2 * d) (get_or src (p + 2 * s) 0) in
      let more = one_more from to src n own in
      let at₀ = at 0 (4 * k) (omega arith) (omega arith) in
      let at₁ = at 1 (4 * k + 1) (omega arith) refl in
      let at₂ = at 2 (4 * k + 2) (omega arith) refl in
      let at₃ = at 3 (4 * k + 3) (omega arith) refl in
      let of₀ = of 0 (4 * k) (omega arith) (omega arith) in
      let of₁ = of 1 (4 * k + 1) (omega arith) refl in
      let of₂ = of 2 (4 * k + 2) (omega arith) refl in
      let of₃ = of 3 (4 * k + 3) (omega arith) refl in
      let f₁ = more dst (4 * k) q (get_or src p 0) (omega arith) (omega arith) (omega (arith, at₀)) (read src (omega (arith, of₀))) f in
      let f₂ = more d₁ (4 * k + 1) (q + d) (get_or src (p + s) 0) (omega arith) (simp length-set (omega arith)) (omega (arith, at₁)) (read src (omega (arith, of₁))) f₁ in
      let f₃ = more d₂ (4 * k + 2) (q + 2 * d) (get_or src (p + 2 * s) 0) (omega arith) (simp length-set (omega arith)) (omega (arith, at₂)) (read src (omega (arith, of₂))) (λ j l. f₂ j (omega arith)) in
      let f₄ = more d₃ (4 * k + 3) (q + 3 * d) (get_or src (p + 3 * s) 0) (omega arith) (simp length-set (omega arith)) (omega (arith, at₃)) (read src (omega (arith, of₃))) (λ j l. f₃ j (omega arith)) in
      λ j l. f₄ j (omega arith)
