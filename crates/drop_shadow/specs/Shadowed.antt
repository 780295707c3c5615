-- The drop shadow of a picture.
use Rattle.std.specs.Prelude.{Bool, List, ℕ, Float}
use Rattle.picture.specs.declared.EdgeMode.{EdgeMode}
use Rattle.binary32.specs.Round.{whole_offset}
use Rattle.composite.specs.Shadow.{coloured, written}
use Rattle.composite.specs.declared.Colour.{Colour}
use Rattle.shift.specs.Shift.{shifted_picture}
use Rattle.gaussian_blur.specs.Outcome.{blurred_or_kept}
use Rattle.drop_shadow.specs.declared.Recipe.{Recipe}

-- the recipe's colour
abbrev pub colour_of : Recipe → Colour
colour_of recipe = record { red = recipe.red; green = recipe.green; blue = recipe.blue; alpha = recipe.alpha }

-- the copy shifted, and blurred when the strength is above zero
unfoldable pub cast : EdgeMode → List Float → ℕ → Recipe → ℕ → ℕ → List ℕ → List ℕ
cast mode weights n recipe w h copy =
    blurred_or_kept mode weights n recipe.strength w h (shifted_picture (whole_offset recipe.dx) (whole_offset recipe.dy) w h copy)

-- the picture of an accepted call: its copy cast and coloured, and the original over it where that is wanted
unfoldable pub shadowed : EdgeMode → List Float → ℕ → Recipe → Bool → ℕ → ℕ → List ℕ → List ℕ
shadowed mode weights n recipe composite w h picture =
    written composite w h picture (coloured (colour_of recipe) w h (cast mode weights n recipe w h picture))
