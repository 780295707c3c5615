-- How far channels exceed their alpha, joined over bytes, for a loop that takes many bytes at once.
use Rattle.std.specs.Prelude.{cond, List, ℕ, zero, suc, ◌+◌, ◌-◌, ◌*◌, ◌%◌, max, eqb, get_or}
use Rattle.std.specs.Int.Bits.{bit_or}

-- how far the greatest of the three bytes from byte j on exceeds the one after them, else 0
unfoldable pub over_at : List ℕ → ℕ → ℕ
over_at bytes j = max (get_or bytes j 0) (max (get_or bytes (j + 1) 0) (get_or bytes (j + 2) 0)) - get_or bytes (j + 3) 0

-- byte j from pixel `from` on: that, where a pixel begins there, else 0
abbrev pub over_first : List ℕ → ℕ → ℕ → ℕ
over_first bytes from j = cond (eqb (j % 4) 0) (over_at bytes (4 * from + j)) 0

-- what f gives at the numbers below n, joined bit by bit
unfoldable pub joined : (ℕ → ℕ) → ℕ → ℕ
joined f zero = 0
joined f (suc n) = bit_or (joined f n) (f n)
