-- What the entry `rebuild` answers and leaves behind, for any input.
use Rattle.std.specs.Prelude.{Bool, not, List, [], ◌∷◌, ◌++◌, ℕ, ◌*◌, length}
use Rattle.picture.specs.Refusal.{Check, check, first_of, picture_checks}
use Rattle.picture.specs.Answer.{Answer, settled}
use Rattle.rebuilding.specs.Restored.{rising, restored}

-- 18: a place lies outside the picture, or is not above the one before it
unfoldable pub wrong_list : List (List ℕ) → ℕ → Bool
wrong_list list area = not (rising 0 area list)

-- Rebuild: 1, 2, 18; of the picture's length
abbrev pub rebuild_checks : ℕ → ℕ → ℕ → List (List ℕ) → List Check
rebuild_checks len w h list = picture_checks len w h ++ check 18 (wrong_list list (w * h)) ∷ []

-- the first refusal; or the picture with each old pixel back in its place
unfoldable pub rebuild_outcome : List ℕ → ℕ → ℕ → List (List ℕ) → Answer (List ℕ)
rebuild_outcome p w h list = settled (first_of (rebuild_checks (length p) w h list)) p (restored list p)
