-- Laws of the number at a place of a file: digit by digit, and of a number in decimal.
use mathlib.Core.Path.{◌≡◌, refl, ◌∙◌}
use mathlib.Core.Bool.{Bool, true, false}
use mathlib.Core.List.{List, ◌∷◌, ◌++◌}
use Prim.Native.Nat.{ℕ, ◌+◌, ◌-◌, ◌*◌, ◌/◌, ◌%◌, ◌≤◌, ◌<◌}
use native.Mathlib.Numerals.{add-one}
use native.Mathlib.Omega.{arith}
use lib.Dec.{ltb}
use lib.ListN.{length, drop, get_or, drop_of_length-le}
use lib.Seq.{drop-cons}
use borrow.Author.Tests.{le-leb, lt-ltb, le-ltb, ltb-true}
use Rattle.picture.specs.Build.{build}
use Rattle.pam_format.specs.Header.{digit_count, digit, decimal}
use Rattle.pam_format.specs.Format.{is_digit, number_on}

-- the byte at i of a file, after the digits that made v
module _ (file : List ℕ) (i v : ℕ) where
  -- there is none
  pub ended : length file ≤ i → number_on (drop i file) v ≡ v
  unfolding number_on
  ended l = rw (drop_of_length-le file l)

  module _ (l : i < length file) where
    -- it is no digit, or five are there
    pub stops : is_digit (get_or file i 0) ≡ false → number_on (drop i file) v ≡ v
    unfolding number_on
    stops e = rw (drop-cons file i 0 l, e)

    pub full : is_digit (get_or file i 0) ≡ true → 9999 < v → number_on (drop i file) v ≡ v
    unfolding number_on
    full e f = rw (drop-cons file i 0 l, e, le-ltb v 10000 f)

    -- it is one more digit
    pub goes : is_digit (get_or file i 0) ≡ true → v ≤ 9999 → number_on (drop i file) v ≡ number_on (drop (i + 1) file) (10 * v + (get_or file i 0 - 48))
    unfolding number_on
    goes e f = rw (drop-cons file i 0 l, e, lt-ltb v 10000 (omega arith), add-one)

-- a digit in front, and a line's end
taken : (x v : ℕ) (rest : List ℕ) → x < 10 → v < 10000 → number_on ((48 + x) ∷ rest) v ≡ number_on rest (10 * v + x)
unfolding number_on
taken x v rest l m = let e : 48 + x - 48 ≡ x = omega arith in rw (le-leb 48 (48 + x) (omega arith), le-leb (48 + x) 57 (omega arith), lt-ltb v 10000 m, e)

at_end : (v : ℕ) (rest : List ℕ) → number_on (10 ∷ rest) v ≡ v
unfolding number_on
at_end v rest = refl

-- a number in decimal, up to a line's end, is read as itself
module _ (n : ℕ) (rest : List ℕ) where
  -- its digit at a power of ten p
  abbrev at : ℕ → ℕ
  at p = n / p % 10

  -- its last digits, after those that made v
  one : (v : ℕ) → v < 10000 → number_on ((48 + at 1) ∷ 10 ∷ rest) v ≡ 10 * v + at 1
  one v l = taken (at 1) v _ (omega arith) l ∙ at_end _ rest

  two : (v : ℕ) → v < 1000 → number_on ((48 + at 10) ∷ (48 + at 1) ∷ 10 ∷ rest) v ≡ 10 * (10 * v + at 10) + at 1
  two v l = taken (at 10) v _ (omega arith) (omega arith) ∙ one (10 * v + at 10) (omega arith)

  three : (v : ℕ) → v < 100 → number_on ((48 + at 100) ∷ (48 + at 10) ∷ (48 + at 1) ∷ 10 ∷ rest) v ≡ 10 * (10 * (10 * v + at 100) + at 10) + at 1
  three v l = taken (at 100) v _ (omega arith) (omega arith) ∙ two (10 * v + at 100) (omega arith)

  four : (v : ℕ) → v < 10 → number_on ((48 + at 1000) ∷ (48 + at 100) ∷ (48 + at 10) ∷ (48 + at 1) ∷ 10 ∷ rest) v ≡ 10 * (10 * (10 * (10 * v + at 1000) + at 100) + at 10) + at 1
  four v l = taken (at 1000) v _ (omega arith) (omega arith) ∙ three (10 * v + at 1000) (omega arith)

  -- a number is its digits, power by power
  by_10 : n ≡ 10 * (n / 10) + at 1
  by_10 = omega arith

  by_100 : n / 10 ≡ 10 * (n / 100) + at 10
  by_100 = omega arith

  by_1000 : n / 100 ≡ 10 * (n / 1000) + at 100
  by_1000 = omega arith

  by_10000 : n / 1000 ≡ 10 * (n / 10000) + at 1000
  by_10000 = omega arith

  pub value_of : n < 100000 → number_on (decimal n ++ (10 ∷ rest)) 0 ≡ n
  unfolding decimal digit_count digit build
  value_of l = by (ltb n 10) refl (ltb n 100) refl (ltb n 1000) refl (ltb n 10000) refl
    where
      by : (a : Bool) → ltb n 10 ≡ a → (b : Bool) → ltb n 100 ≡ b → (c : Bool) → ltb n 1000 ≡ c → (d : Bool) → ltb n 10000 ≡ d → number_on (decimal n ++ (10 ∷ rest)) 0 ≡ n
      by true a b _ c _ d _ = rw a (one 0 (omega arith) ∙ omega (arith, ltb-true n 10 a))
      by false a true b c _ d _ = rw (a, b) (two 0 (omega arith) ∙ omega (arith, ltb-true n 100 b))
      by false a false b true c d _ = rw (a, b, c) (three 0 (omega arith) ∙ omega (arith, ltb-true n 1000 c))
      by false a false b false c true d =
          let top : n / 1000 ≡ at 1000 = omega (arith, ltb-true n 10000 d) in
          rw (a, b, c, d) (four 0 (omega arith) ∙ omega (arith, by_10, by_100, by_1000))
      by false a false b false c false d =
          let top : n / 10000 ≡ at 10000 = omega arith in
          rw (a, b, c, d) (taken (at 10000) 0 _ (omega arith) (omega arith) ∙ four (10 * 0 + at 10000) (omega arith) ∙ omega (arith, by_10, by_100, by_1000, by_10000))
