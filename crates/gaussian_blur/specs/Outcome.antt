-- What the entry `blur` answers and leaves behind, for any input.
use Rattle.std.specs.Prelude.{Bool, false, not, cond, List, [], ◌∷◌, ◌++◌, ℕ, pos, length, Float}
use Rattle.std.specs.Float.{fin}
use Rattle.std.specs.Float.Ieee.{lt}
use Rattle.picture.specs.Planes.{bytes_of, cleared}
use Rattle.picture.specs.Modes.{mode_of}
use Rattle.picture.specs.declared.EdgeMode.{EdgeMode}
use Rattle.picture.specs.Refusal.{Check, check, first_of, picture_checks, too_short, wrong_taps, too_deep, wrong_edge}
use Rattle.picture.specs.Answer.{Answer, Lent, lent, settled}
use Rattle.binary32.specs.Ranges.{finite, any_outside}
use Rattle.passes.specs.declared.Form.{Form}
use Rattle.gaussian_blur.specs.Blurred.{blurred, blurred_form}

-- checks 4 and 5, of a kernel
abbrev pub kernel_checks : List Float → List Check
kernel_checks weights = check 4 (wrong_taps (length weights)) ∷ check 5 (any_outside weights) ∷ []

-- Blur: 1 to 7 and 9; of the picture's and the scratch's lengths
abbrev pub blur_checks : ℕ → ℕ → ℕ → ℕ → List Float → ℕ → Float → ℕ → List Check
blur_checks picture w h scratch weights n strength edge =
    picture_checks picture w h
    ++ (check 3 (too_short scratch w h) ∷ [])
    ++ kernel_checks weights
    ++ (check 6 (too_deep n) ∷ check 7 (not (finite strength)) ∷ check 9 (wrong_edge edge) ∷ [])

-- strength above zero
abbrev pub above_zero : Float → Bool
above_zero strength = lt (fin false 0 (pos 0)) strength

-- the picture of an accepted call: strength at or below zero leaves it as it is
unfoldable pub blurred_or_kept : EdgeMode → List Float → ℕ → Float → ℕ → ℕ → List ℕ → List ℕ
blurred_or_kept mode weights n strength w h bytes = cond (above_zero strength) (blurred mode weights n w h bytes) bytes

-- the same of bytes in any form
unfoldable pub form_or_kept : Form → EdgeMode → List Float → ℕ → Float → ℕ → ℕ → List ℕ → List ℕ
form_or_kept f mode weights n strength w h bytes = cond (above_zero strength) (blurred_form f mode weights n w h bytes) bytes

-- the first refusal; or the picture blurred, and the scratch zero where it was used
unfoldable pub blur_outcome : List ℕ → ℕ → ℕ → List ℕ → List Float → ℕ → Float → ℕ → Answer Lent
blur_outcome p w h s weights n strength edge =
    settled (first_of (blur_checks (length p) w h (length s) weights n strength edge))
    (lent p s)
    (lent (blurred_or_kept (mode_of edge) weights n strength w h p) (cleared (bytes_of w h) s))
