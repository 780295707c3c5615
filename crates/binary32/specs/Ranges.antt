-- Ranges of binary32 values.
use Rattle.std.specs.Prelude.{Bool, true, false, not, ◌||◌, List, [], ◌∷◌, pos, ◌==◌, is_nan, Float}
use Rattle.std.specs.Float.{nan, inf, fin}
use Rattle.std.specs.Float.Ieee.{lt}

-- 0.0 and 1.0
abbrev pub zero32 : Float
zero32 = fin false 0 (pos 0)

abbrev pub one32 : Float
one32 = fin false 1 (pos 0)

-- neither NaN nor infinite (refusal 7 asks it of strength and offsets)
unfoldable pub finite : Float → Bool
finite nan = false
finite (inf s) = false
finite (fin s m e) = true

-- NaN, below 0 or above 1 (refusal 5 of a weight, 8 of a colour component); minus zero is not below 0
unfoldable pub outside_unit : Float → Bool
outside_unit x = is_nan x || (lt x zero32 || lt one32 x)

-- one of the values passes the test
unfoldable pub any_of : (Float → Bool) → List Float → Bool
any_of f [] = false
any_of f (x ∷ xs) = f x || any_of f xs

-- a weight is NaN, below 0 or above 1 (refusal 5)
unfoldable pub any_outside : List Float → Bool
unfolding any_of
any_outside ws = any_of outside_unit ws

-- finite and not below 0; minus zero counts as 0
abbrev pub nonneg : Float → Bool
nonneg nan = false
nonneg (inf s) = false
nonneg (fin s m e) = not s || m == 0
