-- The exact blur is not the blur: a picture whose exact number is no multiple of 2^(10n+32).
use mathlib.Core.Path.{◌≡◌, refl}
use mathlib.Core.List.{[], ◌∷◌}
use Prim.Native.Nat.{◌*◌}
use lib.Ieee.{add, mul, of_int}
use lib.ListN.{get_or}
use Rattle.picture.specs.Planes.{Plane}
use Rattle.picture.specs.declared.EdgeMode.TheVariants.{Duplicate}
use Rattle.edges.specs.Edges.{place, sample}
use Rattle.binary32.specs.Ranges.{one32}
use Rattle.binary32.specs.Round.{round_half_up, to_byte}
use Rattle.binary32.specs.Taps.{tap, taps, sum_to}
use Rattle.passes.specs.Passes.{halve, double, convolve}
use Rattle.passes.specs.Blur.{blur}
use Rattle.gaussian_blur.specs.Blurred.{blurred_plane}
use Rattle.grid_sums.specs.Sums.{grid_sum}
use Rattle.exact_blur.specs.Exact.{exact_halve, exact_double, exact_blur}

-- case E's row, 80, 0, 0, 0 by weight 1 at n = 1, with 81 in the place of 80
abbrev row : Plane
row x y = get_or (81 ∷ 0 ∷ 0 ∷ 0 ∷ []) x 0

-- its first channel is 81 / 2 exactly, 81 times 2^41 over 2^42, ..
pub exact_half : exact_blur Duplicate (65536 ∷ []) 1 4 1 row 0 0 ≡ 81 * 2199023255552
unfolding place sample sum_to blur exact_halve exact_double grid_sum
exact_half = refl

-- .. and 41 in the blur
pub blurred_up : blurred_plane Duplicate (one32 ∷ []) 1 4 1 row 0 0 ≡ 41
unfolding place sample blur halve double convolve taps tap to_byte round_half_up add mul of_int
blurred_up = refl
