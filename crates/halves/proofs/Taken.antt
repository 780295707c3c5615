-- Laws of 80 pixels that are taken apart: one plane more, and all four.
use mathlib.Core.Path.{◌≡◌, ◌∙◌, refl, ap}
use mathlib.Core.List.{List}
use mathlib.Core.Logic.{⊎_elim}
use Prim.Native.Nat.{ℕ, ◌+◌, ◌-◌, ◌*◌, ◌/◌, ◌%◌, ◌≤◌, ◌<◌}
use native.Mathlib.Omega.{arith}
use lib.ListN.{length, get_or}
use Rattle.picture.specs.Build.{build}
use Rattle.picture.specs.Spans.{Run}
use Rattle.picture.specs.declared.Pixel.{Pixel}
use Rattle.picture.proofs.Build.{get_or-build, build_ext}
use Rattle.picture.proofs.Spans.{le_or_lt, span_at}
use Rattle.pixels.specs.Pixels.{pixel_at, packed}
use Rattle.counting.specs.Words.{unpacked}
use Rattle.counting.proofs.Packed.{Bytes, unpacks_at}
use Rattle.halves.specs.Blocks.{apart}

-- pixels packed in words, and the lower and upper half of each
module _ (src : List ℕ) (fit : Bytes src) (m : ℕ) (words low high none : List ℕ) (packs : words ≡ build 80 (λ k. packed (pixel_at src (m + k))))
    (lows : Run 0 none low 0 80 (λ k. get_or words k 0 / 1 % 65536)) (highs : Run 0 none high 0 80 (λ k. get_or words k 0 / 65536 % 65536)) where
  -- the first t planes are there
  abbrev Has : ℕ → List ℕ → Type 0
  Has t d = (i : ℕ) → i < 80 * t → get_or d i 0 ≡ apart src m i

  -- one plane more
  more : (t p : ℕ) (d e : List ℕ) (f : ℕ → ℕ) → Run 0 d e p 80 f → p ≡ 80 * t → ((k : ℕ) → k < 80 → f k ≡ get_or src (4 * (m + k) + t) 0) → Has t d → Has (t + 1) e
  more t p d e f laid at are old i l =
      ⊎_elim
      (λ (u : 80 * t ≤ i).
      let k = i - 80 * t in
      span_at laid k (omega arith) (omega arith) (omega arith) ∙ are k (omega arith) ∙ ap (λ (j : ℕ). get_or src j 0) (omega arith))
      (λ (u : i < 80 * t). laid.below i (omega arith) ∙ old i u)
      (le_or_lt (80 * t) i)

  -- a channel of each pixel, by the half that it is taken from
  channel : (half : List ℕ) (by : ℕ) → Run 0 none half 0 80 (λ k. get_or words k 0 / by % 65536) → (c : Pixel → ℕ) (g : ℕ → ℕ) →
      ((w h : ℕ) → h ≡ w / by % 65536 → g h ≡ c (unpacked w)) → (k : ℕ) → k < 80 → g (get_or half k 0) ≡ c (pixel_at src (m + k))
  channel half by taken c g is k l =
      is (get_or words k 0) (get_or half k 0) (span_at taken k (omega arith) (omega arith) l) ∙ ap (λ (w : ℕ). c (unpacked w)) (rw packs (get_or-build 80 _ k l)) ∙ ap c (unpacks_at src fit (m + k))

  pub block_apart : (d₀ d₁ d₂ d₃ d₄ : List ℕ) → length d₀ ≡ 320 →
      Run 0 d₀ d₁ 0 80 (λ k. get_or low k 0 / 1 % 256) → Run 0 d₁ d₂ 80 80 (λ k. get_or low k 0 / 256 % 256) →
      Run 0 d₂ d₃ 160 80 (λ k. get_or high k 0 / 1 % 256) → Run 0 d₃ d₄ 240 80 (λ k. get_or high k 0 / 256 % 256) → d₄ ≡ build 320 (apart src m)
  block_apart d₀ d₁ d₂ d₃ d₄ long r₀ r₁ r₂ r₃ =
      let p₁ = more 0 0 d₀ d₁ _ r₀ refl (channel low 1 lows (λ p. p.r) (λ h. h / 1 % 256) (λ w h e. omega arith)) (λ i l. absurd (omega arith)) in
      let p₂ = more 1 80 d₁ d₂ _ r₁ refl (channel low 1 lows (λ p. p.g) (λ h. h / 256 % 256) (λ w h e. omega arith)) p₁ in
      let p₃ = more 2 160 d₂ d₃ _ r₂ refl (channel high 65536 highs (λ p. p.b) (λ h. h / 1 % 256) (λ w h e. omega arith)) p₂ in
      let p₄ = more 3 240 d₃ d₄ _ r₃ refl (channel high 65536 highs (λ p. p.a) (λ h. h / 256 % 256) (λ w h e. omega arith)) p₃ in
      build_ext 320 (apart src m) d₄ (r₃.size ∙ r₂.size ∙ r₁.size ∙ r₀.size ∙ long) (λ i l. p₄ i (omega arith))
