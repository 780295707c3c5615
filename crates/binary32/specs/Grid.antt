-- The grid of weights: the multiples of 1 / 65536 from 0 to 1.
use Rattle.std.specs.Prelude.{◌≡◌, ℕ, ◌+◌, ◌*◌, ◌/◌, ◌%◌, Bool, cond, not, ◌&&◌, ◌||◌, T, List, [], ◌∷◌, map, ◌==◌, Option, Some, None, Float}
use Rattle.std.specs.Float.Ieee.Positive.{num, den}
use Rattle.binary32.specs.Ranges.{nonneg, outside_unit, any_of}

-- x equals a / c; minus zero counts as 0
abbrev pub Is : Float → ℕ → ℕ → Type 0
Is x a c = T (nonneg x) × (num x * c ≡ a * den x)

-- x is m / 65536 for a whole m from 0 to 65536: it lies from 0 to 1, and 65536 x is whole (`grid_of` and `of_grid` say that these are one)
unfoldable pub on_grid : Float → Bool
on_grid x = not (outside_unit x) && num x * 65536 % den x == 0

-- that m; 0 where x is off the grid
unfoldable pub numerator : Float → ℕ
numerator x = cond (on_grid x) (num x * 65536 / den x) 0

-- what `numerator_of` answers: that m where x is on the grid
unfoldable pub grid_weight : Float → Option ℕ
grid_weight x = cond (on_grid x) (Some (numerator x)) None

-- every weight is on the grid: none is off it
unfoldable pub all_on_grid : List Float → Bool
all_on_grid ws = not (any_of (λ w. not (on_grid w)) ws)

-- the numerators of a kernel, and their sum
abbrev pub numerators : List Float → List ℕ
numerators ws = map numerator ws

unfoldable pub sum : List ℕ → ℕ
sum [] = 0
sum (m ∷ ms) = m + sum ms

-- a weight is not on the grid, or the numerators do not sum to 65536 (refusal 11)
unfoldable pub off_grid : List Float → Bool
off_grid ws = not (all_on_grid ws) || not (sum (numerators ws) == 65536)
