-- Laws of the weighted sums of lanes: no tap, one more, where they read, lanes counted from further on, and that of bytes they are sums of taps.
use mathlib.Core.Path.{◌≡◌, refl, ap, fun_ext}
use mathlib.Core.List.{List}
use Prim.Native.Nat.{ℕ, zero, suc, ◌+◌, ◌*◌, ◌≤◌, ◌<◌}
use native.Mathlib.Nat.{mul-le-mul_right, add-mul, one-mul}
use native.Mathlib.Numerals.{add-one}
use native.Mathlib.Omega.{arith}
use lib.Ieee.{Float, nan}
use lib.ListN.{length, get_or}
use Rattle.binary32.specs.Ranges.{zero32}
use Rattle.binary32.specs.Taps.{tap, taps}
use Rattle.lanes.specs.Lanes.{widened, add_tap, weighted, lane_sum, Reaches}

-- tap j reads within the line
pub reach : {line weights : List Float} {a step n : ℕ} → Reaches line weights a step n → (j : ℕ) → j < length weights → a + j * step + n ≤ length line
reach {line} {weights} {a} {step} {n} r j l =
    omega (arith, r.last, mul-le-mul_right {m = j + 1} {n = length weights} step (omega arith), add-mul j 1 step, one-mul step)

module _ (line : List Float) (a step : ℕ) (weights : List Float) (i : ℕ) where
  -- no tap yet
  pub sum_none : zero32 ≡ lane_sum line a step weights 0 i
  unfolding weighted
  sum_none = refl

  -- one tap more
  pub sum_more : {s : Float} (j : ℕ) {m : ℕ} → s ≡ lane_sum line a step weights j i → m ≡ a + j * step →
      add_tap s (get_or line (m + i) nan) (get_or weights j nan) ≡ lane_sum line a step weights (j + 1) i
  unfolding weighted
  sum_more j e h = rw (e, h, add-one)

  -- lane i, counted from d lanes on
  pub lane_on : (d n : ℕ) → lane_sum line (a + d) step weights n i ≡ lane_sum line a step weights n (d + i)
  lane_on d n = ap (λ (p : ℕ → Float). weighted p (λ j. get_or weights j nan) n) (fun_ext (λ j. ap (λ (m : ℕ). get_or line m nan) (omega arith)))

-- of bytes made floats, a weighted sum is a sum of taps
pub weighted_taps : (p : ℕ → Float) (b : ℕ → ℕ) (k : ℕ → Float) (n : ℕ) → ((j : ℕ) → j < n → p j ≡ widened (b j)) → weighted p k n ≡ taps b k n
unfolding weighted taps tap
weighted_taps p b k zero h = refl
weighted_taps p b k (suc n) h = rw (weighted_taps p b k n (λ j l. h j (omega arith)), h n (omega arith))
