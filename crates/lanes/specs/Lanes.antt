-- Lanes: values in a row, which one loop works on alike, and the weighted sums of those that stand a step apart.
use Rattle.std.specs.Prelude.{List, ℕ, zero, suc, ◌+◌, ◌*◌, ◌≤◌, ◌<◌, T, pos, Float, length, get_or}
use Rattle.std.specs.Float.{nan, binary32}
use Rattle.std.specs.Float.Ieee.{add, mul, of_int}
use Rattle.binary32.specs.Ranges.{zero32, nonneg}
use Rattle.binary32.specs.Round.{to_byte}

-- a byte as a float
abbrev pub widened : ℕ → Float
widened b = of_int binary32 (pos b)

-- a sum and the product of a value and its weight: one operation each
abbrev pub add_tap : Float → Float → Float → Float
add_tap sum p k = add binary32 sum (mul binary32 p k)

-- the sum of the first n values, each in its weight, from 0.0 and in order
unfoldable pub weighted : (ℕ → Float) → (ℕ → Float) → ℕ → Float
weighted p k zero = zero32
weighted p k (suc n) = add_tap (weighted p k n) (p n) (k n)

-- the sum of lane i under the first n weights: under weight j stands the value that is j steps on from a + i
abbrev pub lane_sum : List Float → ℕ → ℕ → List Float → ℕ → ℕ → Float
lane_sum line a step weights n i = weighted (λ j. get_or line (a + j * step + i) nan) (λ j. get_or weights j nan) n

-- the weights reach n lanes from a on, and no further than the line
pub record Reaches (line weights : List Float) (a step n : ℕ) : Type 0 where
  pub some : 0 < length weights
  pub last : a + length weights * step + n ≤ length line + step

-- lane i under all weights, rounded to a byte
abbrev pub lane_byte : List Float → ℕ → ℕ → List Float → ℕ → ℕ
lane_byte line a step weights i = to_byte (lane_sum line a step weights (length weights) i)

-- n lanes from a on that can be summed and rounded: their sums are not below 0
pub record Weighable (line weights : List Float) (a step n : ℕ) : Type 0 where
  pub reaches : Reaches line weights a step n
  pub nonnegative : (i : ℕ) → i < n → T (nonneg (lane_sum line a step weights (length weights) i))

-- the most lanes of a group: the code's GROUP, where its reason stands
abbrev pub group_room : ℕ
group_room = 32

-- lanes from `first` up to r are done, and of n lanes fewer than `size` are left
pub record Grouped (first n size r : ℕ) : Type 0 where
  pub from : first ≤ r
  pub to : r ≤ n
  pub left : n < r + size
