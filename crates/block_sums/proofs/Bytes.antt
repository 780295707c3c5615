-- Laws of a filled block: the sum of a lane is a sum of taps, which rounds to the byte of the convolution.
use mathlib.Core.Path.{◌≡◌, sym, ap, ◌∙◌, subst}
use mathlib.Core.List.{List}
use Prim.Native.Nat.{ℕ, ◌+◌, ◌-◌, ◌*◌, ◌/◌, ◌%◌, ◌≤◌, ◌<◌}
use native.Mathlib.Nat.{add-mul, mul-le-mul_right, mul-add-div_right, mul-add-mod_self_right}
use native.Mathlib.Omega.{arith}
use lib.Dec.{T}
use lib.Ieee.{Float, nan}
use lib.ListN.{length, get_or}
use Rattle.picture.specs.declared.EdgeMode.{EdgeMode}
use Rattle.edges.specs.Edges.{sample}
use Rattle.binary32.specs.Ranges.{nonneg}
use Rattle.binary32.specs.Round.{to_byte}
use Rattle.binary32.specs.Taps.{taps}
use Rattle.binary32.proofs.Kernels.{weight, weights_of}
use Rattle.binary32.proofs.Taps.{taps_bounded}
use Rattle.binary32.proofs.Values.{plain_nonneg}
use Rattle.passes.specs.Passes.{convolve}
use Rattle.passes.specs.Written.{lane, line_byte}
use Rattle.passes.proofs.Taps.{few_taps, sample_most}
use Rattle.lanes.specs.Lanes.{widened, lane_sum}
use Rattle.lanes.proofs.Taps.{weighted_taps}
use Rattle.blocks.specs.Blocks.{block_value}
use Rattle.passes.specs.Kernel.{Kernel}

-- the line holds a block of m elements and what the taps add at its ends
pub record Filled (mode : EdgeMode) (weights : List Float) (src : List ℕ) (start len stride from n x m : ℕ) (line : List Float) : Type 0 where
  pub value : (t : ℕ) → t < (m + (length weights - 1)) * n → get_or line t nan ≡ block_value mode src start len stride from n x (length weights / 2) t

-- lane i of the m elements from element r on
module _ {mode : EdgeMode} {weights : List Float} {src : List ℕ} {start len stride from n x m : ℕ} {line : List Float}
    (f : Filled mode weights src start len stride from n x m line) (k : Kernel weights) (z : 0 < n) {a : ℕ} (r i : ℕ) (e : a ≡ r * n) (h : r * n + i < m * n) where
  -- what tap j reads
  abbrev read : ℕ → ℕ
  read j = sample mode len (lane src start stride (from + i % n)) (x + (r + i / n) + j) (length weights / 2)

  reads : (j : ℕ) → j < length weights → get_or line (a + j * n + i) nan ≡ widened (read j)
  reads j l =
      let at : a + j * n + i ≡ (r + j) * n + i = omega (arith, add-mul r j n) in
      let in-room : (r + j) * n + i < (m + (length weights - 1)) * n = room in
      let element : x + ((r + j) * n + i) / n ≡ x + (r + i / n) + j = ap (λ (q : ℕ). x + q) (mul-add-div_right z (r + j) i) ∙ omega arith in
      ap (λ (t : ℕ). get_or line t nan) at
      ∙ f.value ((r + j) * n + i) in-room
      ∙ rw (mul-add-mod_self_right (r + j) n i, element)
    where
      room : (r + j) * n + i < (m + (length weights - 1)) * n
      room =
          let last : j + m ≤ m + (length weights - 1) = omega arith in
          omega (arith, add-mul r j n, add-mul j m n, mul-le-mul_right n last)

  lane_taps : lane_sum line a n weights (length weights) i ≡ taps read (weight weights) (length weights)
  lane_taps = weighted_taps _ read (weight weights) (length weights) reads

  pub lane_byte : (j : ℕ) → (j / stride ≡ x + (r + i / n)) × (j % stride ≡ from + i % n) → to_byte (lane_sum line a n weights (length weights) i) ≡ line_byte (convolve mode weights) src start len stride j
  unfolding convolve
  lane_byte j p = rw (p.0, p.1) (ap to_byte lane_taps)

  pub lane_nonneg : ((b : ℕ) → get_or src b 0 ≤ 255) → T (nonneg (lane_sum line a n weights (length weights) i))
  lane_nonneg b =
      subst (λ (s : Float). T (nonneg s)) (sym lane_taps)
      (plain_nonneg (taps read (weight weights) (length weights)) (taps_bounded read (weight weights) (length weights) (λ j l. sample_most mode _ 255 (λ e. b _) len _ _) (weights_of weights k.in_unit) (omega (arith, few_taps _ k.counted))).0)
