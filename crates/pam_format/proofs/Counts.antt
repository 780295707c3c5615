-- How many digits a number has: each way out is one test of the definition.
use mathlib.Core.Path.{◌≡◌}
use Prim.Native.Nat.{ℕ, ◌≤◌, ◌<◌}
use borrow.Author.Tests.{lt-ltb, le-ltb}
use native.Mathlib.Omega.{arith}
use Rattle.pam_format.specs.Header.{digit_count}

pub one_digit : (n : ℕ) → n < 10 → digit_count n ≡ 1
unfolding digit_count
one_digit n a = rw (lt-ltb n 10 a)

pub two_digits : (n : ℕ) → 10 ≤ n → n < 100 → digit_count n ≡ 2
unfolding digit_count
two_digits n a b = rw (le-ltb n 10 a, lt-ltb n 100 b)

pub three_digits : (n : ℕ) → 100 ≤ n → n < 1000 → digit_count n ≡ 3
unfolding digit_count
three_digits n a b = rw (le-ltb n 10 (omega arith), le-ltb n 100 a, lt-ltb n 1000 b)

pub four_digits : (n : ℕ) → 1000 ≤ n → n < 10000 → digit_count n ≡ 4
unfolding digit_count
four_digits n a b = rw (le-ltb n 10 (omega arith), le-ltb n 100 (omega arith), le-ltb n 1000 a, lt-ltb n 10000 b)

pub five_digits : (n : ℕ) → 10000 ≤ n → digit_count n ≡ 5
unfolding digit_count
five_digits n a = rw (le-ltb n 10 (omega arith), le-ltb n 100 (omega arith), le-ltb n 1000 (omega arith), le-ltb n 10000 a)
