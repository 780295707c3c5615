-- One output of a convolution, in binary32: tap j weighs the sample p j by k j.
use Rattle.std.specs.Prelude.{◌≡◌, ℕ, zero, suc, ◌+◌, ◌<◌, ◌≤◌, true, false, pos, Float}
use Rattle.std.specs.Float.{binary32}
use Rattle.std.specs.Float.Ieee.{add, mul, of_int}
use Rattle.binary32.specs.Ranges.{zero32, outside_unit}
use Rattle.binary32.specs.Grid.{on_grid}

-- the product of a byte and a weight: one operation
unfoldable pub tap : ℕ → Float → Float
tap p k = mul binary32 (of_int binary32 (pos p)) k

-- the sum over the first n taps: it starts at 0.0, and each tap adds its product by one operation, in order
unfoldable pub taps : (ℕ → ℕ) → (ℕ → Float) → ℕ → Float
taps p k zero = zero32
taps p k (suc n) = add binary32 (taps p k n) (tap (p n) (k n))

-- the sum of the first n numbers
unfoldable pub sum_to : (ℕ → ℕ) → ℕ → ℕ
sum_to f zero = 0
sum_to f (suc n) = sum_to f n + f n

-- the first n samples are bytes
abbrev pub ByteLine : (ℕ → ℕ) → ℕ → Type 0
ByteLine p n = (j : ℕ) → j < n → p j ≤ 255

-- the first n weights are in range, and on the grid
abbrev pub Weights : (ℕ → Float) → ℕ → Type 0
Weights k n = (j : ℕ) → j < n → outside_unit (k j) ≡ false

abbrev pub GridWeights : (ℕ → Float) → ℕ → Type 0
GridWeights k n = (j : ℕ) → j < n → on_grid (k j) ≡ true
