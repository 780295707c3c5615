-- What the numbers of a vector stand for.
use Rattle.std.specs.Prelude.{◌≡◌, Bool, true, cond, List, ℕ, ◌%◌, ◌^◌, ltb, Float, ℤ}
use Rattle.std.specs.Float.{binary32}
use Rattle.std.specs.Float.Ieee.{of_bits}
use Rattle.std.specs.Int.{w32}
use Rattle.std.specs.List.{list_all}
use Rattle.std.proofs.Common.{to_z}

-- the lower 32 bits
abbrev pub word_of : ℕ → ℕ
word_of x = x % 2 ^ 32

-- the lower 16 bits
abbrev pub half_of : ℕ → ℕ
half_of x = x % 2 ^ 16

-- 32 bits in two's complement
abbrev pub signed_of : ℕ → ℤ
signed_of x = to_z w32 (word_of x)

-- 32 bits as a binary32: every NaN pattern is the one NaN
abbrev pub float_of : ℕ → Float
float_of x = of_bits binary32 (word_of x)

-- the lower 8 bits
abbrev pub byte_of : ℕ → ℕ
byte_of x = x % 256

-- a length that a buffer has room for, or 0
abbrev pub length_of : ℕ → ℕ
length_of x = cond (ltb 2048 x) 0 x

-- each number is below a bound
unfoldable pub all_under : List ℕ → ℕ → Bool
all_under v bound = list_all (λ x. ltb x bound) v

-- the answer of a test
abbrev pub tells : Bool → Type 0 → Type 0
tells r fact = (r ≡ true → fact) × (fact → r ≡ true)
