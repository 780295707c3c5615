-- The law of 64 pixels that are put together, by the halves of their words.
use mathlib.Core.Path.{◌≡◌, ◌∙◌, ap}
use mathlib.Core.List.{List}
use Prim.Native.Nat.{ℕ, zero, suc, ◌+◌, ◌*◌, ◌/◌, ◌%◌, ◌<◌}
use native.Mathlib.Omega.{arith}
use lib.ListN.{get_or}
use Rattle.picture.specs.Spans.{Run}
use Rattle.picture.specs.declared.Pixel.{Pixel}
use Rattle.picture.proofs.Spans.{span_at, span_same}
use Rattle.counting.specs.Words.{unpacked, byte_in}
use Rattle.counting.proofs.Packed.{Bytes, unpacks}
use Rattle.halves.specs.Blocks.{together}

-- 64 pixels of four planes of n bytes, by the lower and upper half of each word
module _ (src dst : List ℕ) (fit : Bytes src) (n m : ℕ) (low high none : List ℕ) (lows : Run 0 none low 0 64 (λ k. get_or src (m + k) 0 + get_or src (n + m + k) 0 * 256))
    (highs : Run 0 none high 0 64 (λ k. get_or src (2 * n + m + k) 0 + get_or src (3 * n + m + k) 0 * 256)) where
  -- channel c of pixel k
  byte : (c k : ℕ) → c < 4 → k < 64 → byte_in (get_or low k 0 + get_or high k 0 * 65536) c ≡ get_or src (c * n + (m + k)) 0
  byte c k lc lk = by c lc
    where
      whole : unpacked (get_or low k 0 + get_or high k 0 * 65536) ≡ record { r = get_or src (m + k) 0; g = get_or src (n + m + k) 0; b = get_or src (2 * n + m + k) 0; a = get_or src (3 * n + m + k) 0 }
      whole =
          ap unpacked (omega (arith, span_at lows k {j = k} (omega arith) (omega arith) lk, span_at highs k {j = k} (omega arith) (omega arith) lk))
          ∙ unpacks _ (record { r_fits = fit (m + k); g_fits = fit (n + m + k); b_fits = fit (2 * n + m + k); a_fits = fit (3 * n + m + k) })

      by : (c : ℕ) → c < 4 → byte_in (get_or low k 0 + get_or high k 0 * 65536) c ≡ get_or src (c * n + (m + k)) 0
      by zero l = ap (λ (p : Pixel). p.r) whole ∙ ap (λ (j : ℕ). get_or src j 0) (omega arith)
      by (suc zero) l = ap (λ (p : Pixel). p.g) whole ∙ ap (λ (j : ℕ). get_or src j 0) (omega arith)
      by (suc (suc zero)) l = ap (λ (p : Pixel). p.b) whole ∙ ap (λ (j : ℕ). get_or src j 0) (omega arith)
      by (suc (suc (suc zero))) l = ap (λ (p : Pixel). p.a) whole ∙ ap (λ (j : ℕ). get_or src j 0) (omega arith)
      by (suc (suc (suc (suc c)))) l = absurd (omega arith)

  pub block_together : (e : List ℕ) → Run 0 dst e (4 * m) (4 * 64) (λ j. byte_in (get_or low (j / 4) 0 + get_or high (j / 4) 0 * 65536) (j % 4)) → Run 0 dst e (4 * m) 256 (together src n m)
  block_together e laid = span_same laid (λ j l u. byte (j % 4) (j / 4) (omega arith) (omega arith))
