-- The shadow's own checks as propositions beside their Bools.
use mathlib.Core.Path.{◌≡◌}
use mathlib.Core.Bool.{false}
use mathlib.Core.List.{[], ◌∷◌}
use mathlib.Core.Logic.{◌↔◌}
use Prim.Native.Nat.{ℕ, ◌≤◌, ◌<◌}
use Rattle.picture.specs.Planes.{bytes_of}
use Rattle.picture.proofs.Conditions.{both_pass, long_enough}
use Rattle.binary32.proofs.Kernels.{weight}
use Rattle.binary32.proofs.Conditions.{ZeroToOne, all_inside, Number, is_number}
use Rattle.shift.proofs.Conditions.{right_offsets}
use Rattle.drop_shadow.specs.Outcome.{either_short, not_finite, wrong_colour}
use Rattle.drop_shadow.specs.declared.Recipe.{Recipe}

-- 3: both work buffers have at least 4wh bytes
pub both_long_enough : (scratch copy w h : ℕ) → (either_short scratch copy w h ≡ false) ↔ ((bytes_of w h ≤ scratch) × (bytes_of w h ≤ copy))
unfolding either_short
both_long_enough scratch copy w h = both_pass (long_enough scratch w h) (long_enough copy w h)

-- 7: both offsets and the strength are numbers
pub all_numbers : (recipe : Recipe) → (not_finite recipe ≡ false) ↔ ((Number recipe.dx × Number recipe.dy) × Number recipe.strength)
unfolding not_finite
all_numbers recipe = both_pass (right_offsets recipe.dx recipe.dy) (is_number recipe.strength)

-- 8: each component is from 0 to 1
pub right_colour : (recipe : Recipe) → (wrong_colour recipe ≡ false) ↔
    ((j : ℕ) → j < 4 → ZeroToOne (weight (recipe.red ∷ recipe.green ∷ recipe.blue ∷ recipe.alpha ∷ []) j))
unfolding wrong_colour
right_colour recipe = all_inside (recipe.red ∷ recipe.green ∷ recipe.blue ∷ recipe.alpha ∷ [])
