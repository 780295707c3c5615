-- Decimal numbers and lines in a text of bytes.
use Rattle.std.specs.Prelude.{cond, ◌&&◌, List, [], ◌∷◌, ℕ, suc, ◌+◌, ◌*◌, ◌-◌, ◌^◌, eqb, leb, ltb, drop, Option, Some, None}
use Rattle.std.specs.Bool.{then_some}
use Rattle.vector_values.specs.declared.text.Reading.{Reading}

-- what the digits 0 to 9 count, bytes 48 to 57, or 10 for any other byte
unfoldable pub digit_of : ℕ → ℕ
digit_of c = cond (leb 48 c && leb c 57) (c - 48) 10

-- the value of the digits at the front of a text, read on from what stands before them
unfoldable pub value_on : ℕ → List ℕ → ℕ
value_on value [] = value
value_on value (c ∷ text) = cond (ltb (digit_of c) 10) (value_on (value * 10 + digit_of c) text) value

-- how many digits stand at the front of a text
unfoldable pub digits : List ℕ → ℕ
digits [] = 0
digits (c ∷ text) = cond (ltb (digit_of c) 10) (suc (digits text)) 0

-- the number at a place and the place after it, unless no digit stands there or 64 bits do not hold it
unfoldable pub numeral_at : List ℕ → ℕ → Option Reading
numeral_at text at =
    then_some (ltb 0 (digits (drop at text)) && ltb (value_on 0 (drop at text)) (2 ^ 64))
    (record { value = value_on 0 (drop at text); end = at + digits (drop at text) })

-- a number that was read, or 0
abbrev pub value_in : Option Reading → ℕ
value_in (Some n) = n.value
value_in None = 0

-- how many bytes stand before the first newline, or the text's end
unfoldable pub line_length : List ℕ → ℕ
line_length [] = 0
line_length (c ∷ text) = cond (eqb c 10) 0 (suc (line_length text))

-- where the line at a place ends
abbrev pub line_end : List ℕ → ℕ → ℕ
line_end text at = at + line_length (drop at text)
