-- Calls worked out, each at the border of what is asked: minus zero is a weight of numerator 0; a sum of 65537 is refused, and its weights are not;
-- a channel leaves its range under None, and under a sum of 65407; and at strength 0 the two profiles differ.
use mathlib.Core.Path.{◌≡◌, refl}
use mathlib.Core.Bool.{true, false}
use mathlib.Core.List.{List, [], ◌∷◌}
use Prim.Native.Nat.{ℕ}
use lib.IntN.{pos, negsuc}
use lib.ListN.{replicate}
use lib.Ieee.{fin, is_nan, lt}
use Rattle.picture.specs.Planes.{chan, painted}
use Rattle.picture.specs.Build.{build}
use Rattle.picture.specs.Sizes.{max_side}
use Rattle.picture.specs.Refusal.{first_else, first_of, zero_or_above, wrong_sides, wrong_length, too_short, max_taps, wrong_taps, max_decimations, too_deep, wrong_edge}
use Rattle.picture.specs.Answer.{settled}
use Rattle.picture.specs.declared.EdgeMode.TheVariants.{Duplicate, None}
use Rattle.edges.specs.Edges.{place, sample}
use Rattle.binary32.specs.Ranges.{zero32, one32, finite, outside_unit, any_of, any_outside}
use Rattle.binary32.specs.Grid.{on_grid, numerator, all_on_grid, sum}
use Rattle.binary32.specs.Taps.{sum_to}
use Rattle.passes.specs.Blur.{blur}
use Rattle.gaussian_blur.specs.Outcome.{blurred_or_kept, blur_outcome}
use Rattle.grid_sums.specs.Sums.{heavy, grid_sum, whole_convolve}
use Rattle.whole_blur.specs.Blurred.{whole_blurred}
use Rattle.whole_blur.specs.Outcome.{whole_outcome}
use Rattle.profiles.specs.Same.{WeightsOf}

-- minus zero and 1
pub minus_zero : WeightsOf (0 ∷ 65536 ∷ []) (fin true 0 (pos 0) ∷ one32 ∷ [])
unfolding all_on_grid any_of on_grid numerator outside_unit is_nan lt
minus_zero = record { on_grid = refl; are = refl }

-- one pixel of 255 in each channel
abbrev white : List ℕ
white = replicate 4 255

-- 1 and 1/65536: 65537 in numerators, which is 14; as weights they are done
pub one_too_heavy : ((whole_outcome white 1 1 white (65536 ∷ 1 ∷ []) 0 0).number ≡ 14) × ((blur_outcome white 1 1 white (one32 ∷ fin false 1 (negsuc 15) ∷ []) 0 one32 0).number ≡ 0)
unfolding max_side first_else first_of zero_or_above wrong_sides wrong_length too_short max_taps wrong_taps max_decimations too_deep wrong_edge settled finite outside_unit any_of any_outside is_nan lt sum heavy whole_outcome blur_outcome
one_too_heavy = (refl, refl)

-- a quarter, a half and a quarter of 255 and of nothing on both sides; and 65407 over 65536 of 255
pub fades : (whole_blurred None (16384 ∷ 32768 ∷ 16384 ∷ []) 0 1 1 white ∷ whole_blurred Duplicate (65407 ∷ []) 0 1 1 white ∷ []) ≡ (replicate 4 64 ∷ replicate 4 254 ∷ [])
unfolding chan painted build place sample sum_to blur grid_sum whole_convolve whole_blurred
fades = refl

-- half of 255, rounded upward along each axis; and at strength 0 the float blur leaves it
pub strength_counts : (whole_blurred Duplicate (32768 ∷ []) 0 1 1 white ≡ replicate 4 64) × (blurred_or_kept Duplicate (fin false 1 (negsuc 0) ∷ []) 0 zero32 1 1 white ≡ white)
unfolding lt chan painted build place sample sum_to blur grid_sum whole_convolve whole_blurred blurred_or_kept
strength_counts = (refl, refl)
