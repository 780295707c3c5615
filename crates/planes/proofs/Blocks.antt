-- Laws of a picture that is taken apart by blocks, a block in one plane more and in all four; and of one that is put together by blocks.
use mathlib.Core.Path.{◌≡◌, ◌∙◌, refl, sym, ap}
use mathlib.Core.Bool.{Bool, true, false, cond}
use mathlib.Core.List.{List}
use mathlib.Core.Logic.{⊎_elim}
use Prim.Native.Nat.{ℕ, ◌+◌, ◌-◌, ◌*◌, ◌/◌, ◌%◌, ◌≤◌, ◌<◌}
use native.Mathlib.Omega.{arith}
use lib.Dec.{ltb}
use lib.ListN.{get_or}
use borrow.Author.Tests.{lt-ltb, le-ltb}
use Rattle.picture.specs.Build.{build}
use Rattle.picture.specs.Spans.{Run}
use Rattle.picture.proofs.Build.{get_or-build}
use Rattle.picture.proofs.Spans.{le_or_lt, within, span_at}
use Rattle.halves.specs.Blocks.{apart, together}
use Rattle.planes.specs.Places.{Carried, pixelwise, lead, InPlanes}
use Rattle.planes.proofs.Carried.{read, channel_at_lem}

small : (b : Bool) (x : ℕ) → cond b x 0 ≤ x
small true x = omega arith
small false x = omega arith

module _ (n m : ℕ) (src : List ℕ) (room : m + 80 ≤ n) where
  -- 64 bytes are laid in plane t
  module _ (t : ℕ) (d e : List ℕ) (p : ℕ) (f : ℕ → ℕ) (laid : Run 0 d e p 64 f) (at : p ≡ t * n + (m + lead t))
      (are : (k : ℕ) → k < 64 → f k ≡ get_or src (4 * (m + lead t + k) + t) 0) (old : InPlanes n m t src d) where
    -- in that plane
    here : (k : ℕ) → t < 4 → k < m + lead t + 64 → get_or e (t * n + k) 0 ≡ get_or src (4 * k + t) 0
    here k lt lk =
        ⊎_elim
        (λ (l : m + lead t ≤ k).
        let j = k - (m + lead t) in
        span_at laid j (omega arith) (omega arith) (omega arith) ∙ are j (omega arith) ∙ read src (omega arith))
        (λ (l : k < m + lead t). laid.below (t * n + k) (omega arith) ∙ old t k lt (omega arith))
        (le_or_lt (m + lead t) k)

    pub plane_more : InPlanes n m (t + 1) src e
    plane_more c k lc lk =
        let inside : k < n = omega (arith, small (ltb c 2) 16, small (ltb c (t + 1)) 64) in
        ⊎_elim
        (λ (l : t ≤ c).
        ⊎_elim
        (λ (l : t + 1 ≤ c).
        let same : ltb c (t + 1) ≡ ltb c t = le-ltb c (t + 1) l ∙ sym (le-ltb c t (omega arith)) in
        laid.above (c * n + k) (omega (arith, within 0 n t c (omega arith), small (ltb t 2) 16)) ∙ old c k lc (rw same at lk))
        (λ (u : c < t + 1).
        let same : c ≡ t = omega arith in
        let wide : k < m + lead c + 64 = omega (arith, small (ltb c (t + 1)) 64) in
        rw same (here k (omega arith) (rw same at wide)))
        (le_or_lt (t + 1) c))
        (λ (l : c < t).
        let same : ltb c (t + 1) ≡ ltb c t = lt-ltb c (t + 1) (omega arith) ∙ sym (lt-ltb c t l) in
        laid.below (c * n + k) (omega (arith, within 0 n c t l)) ∙ old c k lc (rw same at lk))
        (le_or_lt t c)

-- none of the channels has its block
none : (c : ℕ) → cond {A = ℕ} (ltb c 0) 64 0 ≡ 0
none c = rw (le-ltb c 0 (omega arith))

-- 80 pixels taken apart, and 64 bytes of each channel laid in its plane
module _ (n m : ℕ) (src : List ℕ) (room : m + 80 ≤ n) (parts : List ℕ) (taken : parts ≡ build 320 (apart src m)) where
  laid_more : (t o p : ℕ) (d e : List ℕ) → t < 4 → o ≡ 80 * t + lead t → p ≡ t * n + (m + lead t) → Run 0 d e p 64 (λ k. get_or parts (o + k) 0) → InPlanes n m t src d → InPlanes n m (t + 1) src e
  laid_more t o p d e lt eo ep laid old =
      plane_more n m src room t d e p (λ k. get_or parts (o + k) 0) laid ep
      (λ k lk.
      let short : lead t ≤ 16 = small (ltb t 2) 16 in
      ap (λ (b : List ℕ). get_or b (o + k) 0) taken ∙ get_or-build 320 (apart src m) (o + k) (omega arith) ∙ read src (omega arith))
      old

  pub block_split : (d₀ d₁ d₂ d₃ d₄ : List ℕ) → InPlanes n m 0 src d₀ →
      Run 0 d₀ d₁ (m + 16) 64 (λ k. get_or parts (16 + k) 0) → Run 0 d₁ d₂ (n + m + 16) 64 (λ k. get_or parts (96 + k) 0) →
      Run 0 d₂ d₃ (2 * n + m) 64 (λ k. get_or parts (160 + k) 0) → Run 0 d₃ d₄ (3 * n + m) 64 (λ k. get_or parts (240 + k) 0) → InPlanes n (m + 64) 0 src d₄
  block_split d₀ d₁ d₂ d₃ d₄ s r₀ r₁ r₂ r₃ c k lc lk =
      let p₁ = laid_more 0 16 (m + 16) d₀ d₁ (omega arith) refl (omega arith) r₀ s in
      let p₂ = laid_more 1 96 (n + m + 16) d₁ d₂ (omega arith) refl (omega arith) r₁ p₁ in
      let p₃ = laid_more 2 160 (2 * n + m) d₂ d₃ (omega arith) refl (omega arith) r₂ p₂ in
      let p₄ = laid_more 3 240 (3 * n + m) d₃ d₄ (omega arith) refl (omega arith) r₃ p₃ in
      p₄ c k lc (rw (lt-ltb c 4 lc) (omega (arith, none c)))

-- before the first block 64 pixels are carried; after the last, all pixels before m are
module _ (n : ℕ) (src dst : List ℕ) where
  pub blocks_begin : Carried (pixelwise 1 4) (pixelwise n 1) src dst 256 → InPlanes n 48 0 src dst
  blocks_begin f c k lc lk = read dst (omega arith) ∙ channel_at_lem 1 4 n 1 src dst 64 f c k lc (omega (arith, none c, small (ltb c 2) 16)) ∙ read src (omega arith)

  pub blocks_end : (m : ℕ) → InPlanes n m 0 src dst → Carried (pixelwise 1 4) (pixelwise n 1) src dst (4 * m)
  blocks_end m f j lj = read dst (omega arith) ∙ f (j % 4) (j / 4) (omega arith) (omega arith) ∙ read src (omega arith)

-- 64 pixels more are put together
pub joined_more : (n m : ℕ) (src d e : List ℕ) → Run 0 d e (4 * m) 256 (together src n m) → Carried (pixelwise n 1) (pixelwise 1 4) src d (4 * m) → Carried (pixelwise n 1) (pixelwise 1 4) src e (4 * (m + 64))
joined_more n m src d e laid old j l =
    ⊎_elim
    (λ (u : 4 * m ≤ j).
    let k = j - 4 * m in
    let lane : k % 4 ≡ j % 4 = omega arith in
    span_at laid k (omega arith) (omega arith) (omega arith) ∙ rw lane (read src (omega arith)))
    (λ (u : j < 4 * m). laid.below (pixelwise 1 4 j) (omega arith) ∙ old j u)
    (le_or_lt (4 * m) j)
