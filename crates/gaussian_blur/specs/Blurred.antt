-- The blur of a picture: each channel by itself, at the passes of the rules.
use Rattle.std.specs.Prelude.{List, ℕ, Float}
use Rattle.picture.specs.Planes.{Plane, chan, painted}
use Rattle.picture.specs.declared.EdgeMode.{EdgeMode}
use Rattle.passes.specs.Passes.{halve, double, convolve}
use Rattle.passes.specs.Blur.{blur}
use Rattle.passes.specs.Forms.{read_as, write_as}
use Rattle.passes.specs.declared.Form.{Form}

-- one channel of w by h values after n decimations, the convolution and n doublings
abbrev pub blurred_plane : EdgeMode → List Float → ℕ → ℕ → ℕ → Plane → Plane
blurred_plane mode weights n w h p = blur (halve mode) (double mode) (convolve mode weights) n w h p

-- the bytes of a picture of w by h pixels, blurred
unfoldable pub blurred : EdgeMode → List Float → ℕ → ℕ → ℕ → List ℕ → List ℕ
blurred mode weights n w h bytes = painted w h (λ c. blurred_plane mode weights n w h (chan bytes w c))

-- the same of a picture in any form
abbrev pub blurred_form : Form → EdgeMode → List Float → ℕ → ℕ → ℕ → List ℕ → List ℕ
blurred_form f mode weights n w h bytes = write_as f w h (λ c. blurred_plane mode weights n w h (read_as f bytes w h c))
