-- What the entry `blur_whole` answers and leaves behind, for any input.
use Rattle.std.specs.Prelude.{List, [], ◌∷◌, ◌++◌, ℕ, length}
use Rattle.picture.specs.Planes.{bytes_of, cleared}
use Rattle.picture.specs.Modes.{mode_of}
use Rattle.picture.specs.Refusal.{Check, check, first_of, picture_checks, too_short, wrong_taps, too_deep, wrong_edge}
use Rattle.picture.specs.Answer.{Answer, Lent, lent, settled}
use Rattle.grid_sums.specs.Sums.{heavy}
use Rattle.whole_blur.specs.Blurred.{whole_blurred}

-- checks 4 and 14, of a kernel of whole numbers: 14 stands in the place of 5
abbrev pub numerator_checks : List ℕ → List Check
numerator_checks ms = check 4 (wrong_taps (length ms)) ∷ check 14 (heavy ms) ∷ []

-- the whole-number blur: 1, 2, 3, 4, 14, 6 and 9; of the picture's and the scratch's lengths
abbrev pub whole_checks : ℕ → ℕ → ℕ → ℕ → List ℕ → ℕ → ℕ → List Check
whole_checks picture w h scratch ms n edge =
    picture_checks picture w h
    ++ (check 3 (too_short scratch w h) ∷ [])
    ++ numerator_checks ms
    ++ (check 6 (too_deep n) ∷ check 9 (wrong_edge edge) ∷ [])

-- the first refusal; or the picture blurred, and the scratch zero where it was used
unfoldable pub whole_outcome : List ℕ → ℕ → ℕ → List ℕ → List ℕ → ℕ → ℕ → Answer Lent
whole_outcome p w h s ms n edge =
    settled (first_of (whole_checks (length p) w h (length s) ms n edge))
    (lent p s)
    (lent (whole_blurred (mode_of edge) ms n w h p) (cleared (bytes_of w h) s))
