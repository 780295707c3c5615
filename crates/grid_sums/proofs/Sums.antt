-- Laws of numerators and of bytes summed in them: the sum from an index on, and that sums of bytes fit.
use mathlib.Core.Path.{◌≡◌}
use mathlib.Core.List.{List}
use Prim.Native.Nat.{ℕ, zero, suc, ◌+◌, ◌*◌, ◌≤◌, ◌<◌}
use native.Mathlib.Nat.{mul-le-mul, mul-le-mul_right}
use native.Mathlib.Numerals.{add-one}
use native.Mathlib.Omega.{arith}
use lib.ListN.{length, get_or, drop}
use lib.Seq.{drop-cons}
use borrow.Author.Tests.{ltb-false}
use Rattle.binary32.specs.Grid.{sum}
use Rattle.binary32.specs.Taps.{sum_to}
use Rattle.grid_sums.specs.Sums.{heavy}
use Rattle.grid_sums.specs.Room.{most_sum, Numerators}

-- a byte in a weight of 16 bits
pub product_fits : {b k : ℕ} → b < 256 → k < 65536 → b * k ≤ most_sum
product_fits {b} {k} l m = omega (arith, mul-le-mul {n₁ = b} {m₁ = k} {n₂ = 255} {m₂ = 65535} (omega arith) (omega arith))

-- the sum from i on is numerator i and the sum after it
pub sum_rest : (ms : List ℕ) (i : ℕ) → i < length ms → sum (drop i ms) ≡ get_or ms i 0 + sum (drop (i + 1) ms)
unfolding sum
sum_rest ms i l = rw (add-one, drop-cons ms i 0 l)

-- bytes in the first n numerators leave room for bytes in the others
weighed_most : (ms : List ℕ) (g : ℕ → ℕ) → ((j : ℕ) → g j ≤ 255) → (n : ℕ) → n ≤ length ms →
    sum_to (λ j. g j * get_or ms j 0) n + 255 * sum (drop n ms) ≤ 255 * sum ms
unfolding sum_to
weighed_most ms g b zero l = omega arith
weighed_most ms g b (suc n) l =
    omega (arith, weighed_most ms g b n (omega arith), rw add-one at (sum_rest ms n (omega arith)), mul-le-mul_right (get_or ms n 0) (b n))

module _ {ms : List ℕ} (k : Numerators ms) where
  most : sum ms ≤ 65536
  unfolding heavy
  most = ltb-false 65536 (sum ms) k.light

  -- the sum of bytes in the first n numerators, ..
  pub sum_fits : (g : ℕ → ℕ) → ((j : ℕ) → g j ≤ 255) → (n : ℕ) → n ≤ length ms → sum_to (λ j. g j * get_or ms j 0) n ≤ most_sum
  sum_fits g b n l = omega (arith, weighed_most ms g b n l, most)

  -- .. and each numerator
  pub numerator_fits : (j : ℕ) → j < length ms → get_or ms j 0 ≤ 65536
  numerator_fits j l = omega (arith, weighed_most ms (λ _. 0) (λ _. omega arith) j (omega arith), sum_rest ms j l, most)
