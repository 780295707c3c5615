-- What the entry `blur_planes` answers and leaves behind: what that on a picture does, with the work done on planes.
use Rattle.std.specs.Prelude.{List, ℕ, length, Float}
use Rattle.picture.specs.Planes.{bytes_of, cleared}
use Rattle.picture.specs.Modes.{mode_of}
use Rattle.picture.specs.Refusal.{first_of}
use Rattle.picture.specs.Answer.{Answer, Lent, lent, settled}
use Rattle.planes.specs.Planar.{on_planes}
use Rattle.gaussian_blur.specs.Outcome.{blur_checks, blurred_or_kept}

-- Blur on planes: the refusals of Blur; or the planes blurred, and the scratch zero where it was used
unfoldable pub blur_planes_outcome : List ℕ → ℕ → ℕ → List ℕ → List Float → ℕ → Float → ℕ → Answer Lent
blur_planes_outcome p w h s weights n strength edge =
    settled (first_of (blur_checks (length p) w h (length s) weights n strength edge))
    (lent p s)
    (lent (on_planes w h (blurred_or_kept (mode_of edge) weights n strength w h) p) (cleared (bytes_of w h) s))
