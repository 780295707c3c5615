-- Laws of a number in decimal, and of the header's length.
use mathlib.Core.Path.{◌≡◌, refl}
use mathlib.Core.Bool.{Bool, true, false, cond}
use Prim.Native.Nat.{ℕ, suc, ◌+◌, ◌-◌, ◌≤◌}
use native.Mathlib.Omega.{arith}
use lib.Dec.{ltb}
use lib.ListN.{length, length-append}
use Rattle.picture.proofs.Build.{length_build}
use Rattle.pam_format.specs.Header.{bytes, digit_count, digit, decimal, before_width, before_height, after_height, header}

-- one of two numbers, both within 1 and 5
either : (b : Bool) (x y : ℕ) → (1 ≤ x) × (x ≤ 5) → (1 ≤ y) × (y ≤ 5) → (1 ≤ cond b x y) × (cond b x y ≤ 5)
either true x y p q = p
either false x y p q = q

-- from 1 to 5 digits
pub digits_most : (n : ℕ) → (1 ≤ digit_count n) × (digit_count n ≤ 5)
unfolding digit_count
digits_most n =
    either (ltb n 10) 1 _ (omega arith, omega arith)
    (either (ltb n 100) 2 _ (omega arith, omega arith)
    (either (ltb n 1000) 3 _ (omega arith, omega arith)
    (either (ltb n 10000) 4 5 (omega arith, omega arith) (omega arith, omega arith))))

pub length_decimal : (n : ℕ) → length (decimal n) ≡ digit_count n
unfolding decimal
length_decimal n = length_build (digit_count n) (λ i. digit n (digit_count n - suc i))

-- the words in front of the sides
pub length_width : length before_width ≡ 9
unfolding before_width bytes
length_width = refl

pub length_height : length before_height ≡ 8
unfolding before_height bytes
length_height = refl

length_after_lem : length after_height ≡ 46
unfolding after_height bytes
length_after_lem = refl

pub length_header : (w h : ℕ) → length (header w h) ≡ 63 + digit_count w + digit_count h
unfolding header
length_header w h = simp (length-append, length_decimal, length_width, length_height, length_after_lem) (omega arith)
