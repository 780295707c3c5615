-- What C passes to a filter, as the entries take it.
use Rattle.std.specs.Prelude.{Bool, not, ℕ, eqb, Float}
use Rattle.drop_shadow.specs.declared.Recipe.{Recipe}

-- a shadow's recipe, of seven arguments
abbrev pub recipe : Float → Float → Float → Float → Float → Float → Float → Recipe
recipe dx dy strength red green blue alpha =
    record {
      dx = dx;
      dy = dy;
      strength = strength;
      red = red;
      green = green;
      blue = blue;
      alpha = alpha;
    }

-- 0 is no; any other number is yes
abbrev pub flag : ℕ → Bool
flag n = not (eqb n 0)
