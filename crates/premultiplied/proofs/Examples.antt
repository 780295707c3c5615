-- Calls worked out: a picture that is not premultiplied stays so, which is why the premise is there; and sums above 1 are held at 255 in every channel.
use mathlib.Core.Path.{◌≡◌, refl}
use mathlib.Core.Bool.{true}
use mathlib.Core.List.{List, [], ◌∷◌}
use Prim.Native.Nat.{ℕ}
use lib.ListN.{replicate}
use lib.Ieee.{is_nan, lt, add, mul, of_int}
use Rattle.picture.specs.Planes.{chan, painted, cleared, laid}
use Rattle.picture.specs.Build.{build}
use Rattle.picture.specs.Sizes.{max_side}
use Rattle.picture.specs.Modes.{mode_of}
use Rattle.picture.specs.Refusal.{first_else, first_of, zero_or_above, wrong_sides, wrong_length, too_short, max_taps, wrong_taps, max_decimations, too_deep, wrong_edge}
use Rattle.picture.specs.Answer.{answered, settled, lent}
use Rattle.edges.specs.Edges.{place, sample}
use Rattle.binary32.specs.Ranges.{zero32, one32, finite, outside_unit, any_of, any_outside}
use Rattle.binary32.specs.Round.{round_half_up, to_byte, whole_offset}
use Rattle.binary32.specs.Taps.{tap, taps}
use Rattle.passes.specs.Passes.{convolve}
use Rattle.passes.specs.Blur.{blur}
use Rattle.gaussian_blur.specs.Blurred.{blurred}
use Rattle.gaussian_blur.specs.Outcome.{blurred_or_kept, blur_outcome}
use Rattle.shift.specs.Shift.{moved, shifted, shifted_picture}
use Rattle.shift.specs.Outcome.{wrong_offsets, shift_outcome}
use Rattle.pixels.specs.Channels.{exceeds, exceeds_at}

-- one pixel of red 1 and alpha 0, which a shift by nothing leaves
abbrev bare : List ℕ
bare = 1 ∷ 0 ∷ 0 ∷ 0 ∷ []

pub premise_needed : (exceeds_at bare 0 ≡ true) × (shift_outcome bare 1 1 zero32 zero32 ≡ answered 0 bare)
unfolding exceeds chan painted build max_side first_else first_of zero_or_above wrong_sides wrong_length settled place sample finite round_half_up whole_offset moved shifted shifted_picture wrong_offsets shift_outcome
premise_needed = (refl, refl)

-- red 200, green 100 and alpha 250 under three weights of 1, whose sums are 600, 300 and 750: red and green come up to alpha, and not beyond it
pub held_alike : blur_outcome (200 ∷ 100 ∷ 0 ∷ 250 ∷ []) 1 1 (replicate 4 7) (one32 ∷ one32 ∷ one32 ∷ []) 0 one32 0 ≡ answered 0 (lent (255 ∷ 255 ∷ 0 ∷ 255 ∷ []) (replicate 4 0))
unfolding chan painted cleared laid build max_side mode_of first_else first_of zero_or_above wrong_sides wrong_length too_short max_taps wrong_taps max_decimations too_deep wrong_edge settled place sample finite outside_unit any_of any_outside round_half_up to_byte tap taps is_nan lt add mul of_int convolve blur blurred blurred_or_kept blur_outcome
held_alike = refl
