-- A picture's bytes in a form: so many planes one after the other, each of elements of so many bytes. Channel c is byte c % lanes of the
-- elements of plane c / lanes.
use Rattle.std.specs.Prelude.{List, ℕ, ◌+◌, ◌*◌, ◌/◌, ◌%◌, ◌≤◌, ◌<◌, get_or}
use Rattle.picture.specs.Build.{build}
use Rattle.picture.specs.Planes.{Plane}
use Rattle.picture.specs.declared.LevelSize.{LevelSize}
use Rattle.passes.specs.declared.Form.{Form}
use Rattle.passes.specs.Passes.{Pass}
use Rattle.passes.specs.Blur.{both}

-- the form of a picture of pixels
abbrev pub of_pixels : Form
of_pixels = record { planes = 1; lanes = 4 }

-- the form of so many planes of single bytes
abbrev pub of_planes : ℕ → Form
of_planes m = record { planes = m; lanes = 1 }

-- how many channels there are
abbrev pub channels : Form → ℕ
channels f = f.planes * f.lanes

-- the bytes of a row, and of a plane of h of them
abbrev pub row_bytes : Form → ℕ → ℕ
row_bytes f w = w * f.lanes

abbrev pub plane_bytes : Form → ℕ → ℕ → ℕ
plane_bytes f w h = h * row_bytes f w

-- how many bytes a picture, or a level, of w by h has
abbrev pub form_bytes : Form → ℕ → ℕ → ℕ
form_bytes f w h = f.planes * plane_bytes f w h

-- channel c of the picture of w by h that these bytes are
unfoldable pub read_as : Form → List ℕ → ℕ → ℕ → ℕ → Plane
read_as f bytes w h c x y = get_or bytes (c / f.lanes * plane_bytes f w h + (y * row_bytes f w + (x * f.lanes + c % f.lanes))) 0

-- the bytes of a picture of w by h whose channel c is the plane F c
unfoldable pub write_as : Form → ℕ → ℕ → (ℕ → Plane) → List ℕ
write_as f w h F =
    build (form_bytes f w h)
    (λ i.
    let r = i % plane_bytes f w h in
    F (i / plane_bytes f w h * f.lanes + r % row_bytes f w % f.lanes) (r % row_bytes f w / f.lanes) (r / row_bytes f w))

-- the level of size t that a pass makes of one of size s: each channel, rows first, then columns
unfoldable pub form_pass : Form → Pass → LevelSize → LevelSize → List ℕ → List ℕ
form_pass f g s t bytes = write_as f t.w t.h (λ c. both g s.w s.h (read_as f bytes s.w s.h c))

-- a form that has channels, and that the arithmetic has room for
pub record Formed (f : Form) : Type 0 where
  pub planes_low : 0 < f.planes
  pub planes_high : f.planes ≤ 4
  pub lanes_low : 0 < f.lanes
  pub lanes_high : f.lanes ≤ 4
