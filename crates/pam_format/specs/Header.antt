-- The header of the testers' image files, Netpbm PAM, as it is spelt: one definition for files written and for files read.
use Rattle.std.specs.Prelude.{cond, List, [] as none, ◌∷◌ as ◌then◌, ◌++◌, ℕ, suc, ◌+◌, ◌-◌, ◌/◌, ◌%◌, ◌^◌, ltb, length, take, drop}
use Prim.Native.Char.{code}
use Prim.Native.String.{String, [], ◌∷◌}
use Rattle.picture.specs.Build.{build}

-- a text as bytes
unfoldable pub bytes : String → List ℕ
bytes [] = none
bytes (c ∷ s) = code c then bytes s

-- how many digits a number below 100000 has; no side has more
unfoldable pub digit_count : ℕ → ℕ
digit_count n = cond (ltb n 10) 1 (cond (ltb n 100) 2 (cond (ltb n 1000) 3 (cond (ltb n 10000) 4 5)))

-- the digit of a number at 10^k, as its character
unfoldable pub digit : ℕ → ℕ → ℕ
digit n k = 48 + n / 10 ^ k % 10

-- a number in decimal, the highest digit first, without leading zeros
unfoldable pub decimal : ℕ → List ℕ
decimal n = build (digit_count n) (λ i. digit n (digit_count n - suc i))

-- the words before the width, between it and the height, and after the height
unfoldable pub before_width : List ℕ
before_width = bytes "P7\nWIDTH "

unfoldable pub before_height : List ℕ
before_height = bytes "\nHEIGHT "

unfoldable pub after_height : List ℕ
after_height = bytes "\nDEPTH 4\nMAXVAL 255\nTUPLTYPE RGB_ALPHA\nENDHDR\n"

-- the header of a picture of w by h pixels
unfoldable pub header : ℕ → ℕ → List ℕ
header w h = before_width ++ decimal w ++ before_height ++ decimal h ++ after_height

-- a line with a text from `at` on, and else as it was
abbrev pub written_at : ℕ → List ℕ → List ℕ → List ℕ
written_at at text line = take at line ++ (text ++ drop (at + length text) line)
