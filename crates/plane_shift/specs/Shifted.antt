-- What the entry `shift_planes` answers and leaves behind, for any input.
use Rattle.std.specs.Prelude.{List, ℕ, length, Float}
use Rattle.picture.specs.Refusal.{first_of}
use Rattle.picture.specs.Answer.{Answer, settled}
use Rattle.binary32.specs.Round.{whole_offset}
use Rattle.planes.specs.Planar.{on_planes}
use Rattle.shift.specs.Shift.{shifted_picture}
use Rattle.shift.specs.Outcome.{shift_checks}

-- Shift on planes: the refusals of Shift; or the planes moved as the picture that they are
unfoldable pub shift_planes_outcome : List ℕ → ℕ → ℕ → Float → Float → Answer (List ℕ)
shift_planes_outcome p w h dx dy =
    settled (first_of (shift_checks (length p) w h dx dy)) p (on_planes w h (shifted_picture (whole_offset dx) (whole_offset dy) w h) p)
