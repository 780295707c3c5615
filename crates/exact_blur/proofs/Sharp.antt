-- 65536 is sharp in demand 3: with a kernel of sum 65537 and a picture of 3 by 3 the bound fails, in every edge mode.
use mathlib.Core.Path.{◌≡◌, refl}
use mathlib.Core.Bool.{true, false}
use mathlib.Core.List.{List, [], ◌∷◌}
use Prim.Native.Nat.{◌+◌, ◌*◌}
use native.Mathlib.Omega.{arith}
use lib.IntN.{negsuc}
use lib.Ieee.{Float, fin, add, mul, of_int, is_nan, lt}
use lib.ListN.{get_or}
use Rattle.picture.specs.Planes.{Plane}
use Rattle.picture.specs.declared.EdgeMode.{EdgeMode}
use Rattle.picture.specs.declared.EdgeMode.TheVariants.{Duplicate, Wrap, Mirror, None}
use Rattle.edges.specs.Edges.{place, sample}
use Rattle.binary32.specs.Ranges.{outside_unit, any_of}
use Rattle.binary32.specs.Grid.{on_grid, numerator, numerators, all_on_grid, sum}
use Rattle.binary32.specs.Round.{round_half_up, to_byte}
use Rattle.binary32.specs.Taps.{tap, taps, sum_to}
use Rattle.passes.specs.Passes.{convolve}
use Rattle.passes.specs.Blur.{blur}
use Rattle.gaussian_blur.specs.Blurred.{blurred_plane}
use Rattle.grid_sums.specs.Sums.{grid_sum}
use Rattle.exact_blur.specs.Exact.{exact_blur}
use Rattle.exact_blur.specs.Demand.{steps_of, Within}

-- weights 32768, 32767 and 2 over 65536, ..
abbrev heavy : List Float
heavy = fin false 1 (negsuc 0) ∷ fin false 32767 (negsuc 15) ∷ fin false 1 (negsuc 14) ∷ []

-- .. on the grid, with one more than 65536
pub heavy_by_one : (all_on_grid heavy ≡ true) × (sum (numerators heavy) ≡ 65537)
unfolding all_on_grid sum any_of on_grid numerator outside_unit is_nan lt
heavy_by_one = (refl, refl)

-- 1, 3, 1 in column 0, and 0 in the others
abbrev column : Plane
column x y = get_or (1 ∷ 3 ∷ 1 ∷ []) (y + 3 * x) 0

-- the middle pixel is 2 in the blur ..
blurred_middle : (mode : EdgeMode) → blurred_plane mode heavy 0 3 3 column 1 1 ≡ 2
unfolding place sample blur convolve taps tap to_byte round_half_up add mul of_int
blurred_middle Duplicate = refl
blurred_middle Wrap = refl
blurred_middle Mirror = refl
blurred_middle None = refl

-- .. and 32768 · 131071 over 2^32 exactly, 1 + 2^-17 steps below
exact_middle : (mode : EdgeMode) → exact_blur mode (numerators heavy) 0 3 3 column 1 1 ≡ 32768 * 131071
unfolding place sample blur grid_sum sum_to on_grid numerator outside_unit is_nan lt
exact_middle Duplicate = refl
exact_middle Wrap = refl
exact_middle Mirror = refl
exact_middle None = refl

pub one_too_heavy : (mode : EdgeMode) → Within (steps_of 0) 0 (blurred_plane mode heavy 0 3 3 column 1 1) (exact_blur mode (numerators heavy) 0 3 3 column 1 1) → ⊥
one_too_heavy mode h = omega (arith, h.low, blurred_middle mode, exact_middle mode)
