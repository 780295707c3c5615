-- What the entry `shadow` answers and leaves behind, for any input.
use Rattle.std.specs.Prelude.{Bool, not, ◌||◌, List, [], ◌∷◌, ◌++◌, ℕ, length, Float}
use Rattle.picture.specs.Planes.{bytes_of, cleared}
use Rattle.picture.specs.Modes.{mode_of}
use Rattle.picture.specs.Refusal.{Check, check, first_of, picture_checks, too_short, too_deep, wrong_edge}
use Rattle.picture.specs.Answer.{Answer, settled, LentCopy, lent_copy}
use Rattle.binary32.specs.Ranges.{finite, any_outside}
use Rattle.shift.specs.Outcome.{wrong_offsets}
use Rattle.gaussian_blur.specs.Outcome.{kernel_checks}
use Rattle.drop_shadow.specs.Shadowed.{shadowed}
use Rattle.drop_shadow.specs.declared.Recipe.{Recipe}

-- 3: scratch or copy is too short
unfoldable pub either_short : ℕ → ℕ → ℕ → ℕ → Bool
either_short scratch copy w h = too_short scratch w h || too_short copy w h

-- 7: an offset or the strength is NaN or infinite
unfoldable pub not_finite : Recipe → Bool
not_finite recipe = wrong_offsets recipe.dx recipe.dy || not (finite recipe.strength)

-- 8: a colour component is NaN, below 0 or above 1
unfoldable pub wrong_colour : Recipe → Bool
wrong_colour recipe = any_outside (recipe.red ∷ recipe.green ∷ recipe.blue ∷ recipe.alpha ∷ [])

-- Shadow: 1 to 9; of the lent buffers' lengths
abbrev pub shadow_checks : ℕ → ℕ → ℕ → ℕ → ℕ → List Float → ℕ → ℕ → Recipe → List Check
shadow_checks picture w h scratch copy weights n edge recipe =
    picture_checks picture w h
    ++ (check 3 (either_short scratch copy w h) ∷ [])
    ++ kernel_checks weights
    ++ (check 6 (too_deep n) ∷ check 7 (not_finite recipe) ∷ check 8 (wrong_colour recipe) ∷ check 9 (wrong_edge edge) ∷ [])

-- the first refusal; or the picture with its shadow, and both work buffers zero where they were used
unfoldable pub shadow_outcome : List ℕ → ℕ → ℕ → List ℕ → List ℕ → List Float → ℕ → ℕ → Recipe → Bool → Answer LentCopy
shadow_outcome p w h s c weights n edge recipe composite =
    settled (first_of (shadow_checks (length p) w h (length s) (length c) weights n edge recipe))
    (lent_copy p s c)
    (lent_copy (shadowed (mode_of edge) weights n recipe composite w h p) (cleared (bytes_of w h) s) (cleared (bytes_of w h) c))
