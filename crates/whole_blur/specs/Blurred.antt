-- The blur of a picture in whole numbers: each channel by itself, at the passes of the rules.
use Rattle.std.specs.Prelude.{List, ℕ}
use Rattle.picture.specs.Planes.{chan, painted}
use Rattle.picture.specs.declared.EdgeMode.{EdgeMode}
use Rattle.passes.specs.Passes.{halve, double}
use Rattle.passes.specs.Blur.{blur}
use Rattle.grid_sums.specs.Sums.{whole_convolve}

-- the bytes of a picture of w by h pixels, blurred with numerators over 65536
unfoldable pub whole_blurred : EdgeMode → List ℕ → ℕ → ℕ → ℕ → List ℕ → List ℕ
whole_blurred mode ms n w h bytes = painted w h (λ c. blur (halve mode) (double mode) (whole_convolve mode ms) n w h (chan bytes w c))
