-- What the entry `shadow_planes` answers and leaves behind: what that on a picture does, with the work done on planes.
use Rattle.std.specs.Prelude.{Bool, List, ℕ, length, Float}
use Rattle.picture.specs.Planes.{bytes_of, cleared}
use Rattle.picture.specs.Modes.{mode_of}
use Rattle.picture.specs.Refusal.{first_of}
use Rattle.picture.specs.Answer.{Answer, LentCopy, lent_copy, settled}
use Rattle.planes.specs.Planar.{on_planes}
use Rattle.drop_shadow.specs.Shadowed.{shadowed}
use Rattle.drop_shadow.specs.Outcome.{shadow_checks}
use Rattle.drop_shadow.specs.declared.Recipe.{Recipe}

-- Shadow on planes: the refusals of Shadow; or the planes with their shadow, and both work buffers zero where they were used
unfoldable pub shadow_planes_outcome : List ℕ → ℕ → ℕ → List ℕ → List ℕ → List Float → ℕ → ℕ → Recipe → Bool → Answer LentCopy
shadow_planes_outcome p w h s c weights n edge recipe composite =
    settled (first_of (shadow_checks (length p) w h (length s) (length c) weights n edge recipe))
    (lent_copy p s c)
    (lent_copy (on_planes w h (shadowed (mode_of edge) weights n recipe composite w h) p) (cleared (bytes_of w h) s) (cleared (bytes_of w h) c))
