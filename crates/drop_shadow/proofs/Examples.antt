-- The shadow of one pixel of alpha 1 in half a red, alone and under the original: its colour is not lost (rule 8.5).
use mathlib.Core.Path.{◌≡◌, refl}
use mathlib.Core.Bool.{Bool, true, false}
use mathlib.Core.List.{List, [], ◌∷◌}
use Prim.Native.Nat.{ℕ}
use lib.IntN.{pos, negsuc}
use lib.ListN.{replicate}
use lib.Ieee.{Float, fin, is_nan, lt, add, sub, mul, div, of_int}
use Rattle.picture.specs.Planes.{chan, painted, cleared, laid}
use Rattle.picture.specs.Build.{build}
use Rattle.picture.specs.Sizes.{max_side}
use Rattle.picture.specs.Modes.{mode_of}
use Rattle.picture.specs.Refusal.{first_else, first_of, zero_or_above, wrong_sides, wrong_length, too_short, max_taps, wrong_taps, max_decimations, too_deep, wrong_edge}
use Rattle.picture.specs.Answer.{settled}
use Rattle.edges.specs.Edges.{place, sample}
use Rattle.binary32.specs.Ranges.{finite, outside_unit, any_outside}
use Rattle.binary32.specs.Round.{round_half_up, to_byte, whole_offset}
use Rattle.pixels.specs.Channels.{premultiply}
use Rattle.gaussian_blur.specs.Outcome.{blurred_or_kept}
use Rattle.shift.specs.Shift.{moved, shifted, shifted_picture}
use Rattle.shift.specs.Outcome.{wrong_offsets}
use Rattle.composite.specs.Channels.{norm, norm_byte, at_most_one, shadow_alpha, over}
use Rattle.composite.specs.Shadow.{tinted, shadow_of, coloured, composed, written}
use Rattle.drop_shadow.specs.Shadowed.{cast, shadowed}
use Rattle.drop_shadow.specs.Outcome.{either_short, not_finite, wrong_colour, shadow_outcome}
use Rattle.drop_shadow.specs.declared.Recipe.{Recipe}

-- 0, 1/2 and 1
abbrev none : Float
none = fin false 0 (pos 0)

abbrev half : Float
half = fin false 1 (negsuc 0)

abbrev one : Float
one = fin false 1 (pos 0)

-- not moved and not blurred
abbrev red : Recipe
red = record { dx = none; dy = none; strength = none; red = half; green = none; blue = none; alpha = one }

-- the entry's number, then the picture's bytes
abbrev faint : Bool → List ℕ
faint composite =
    let work : List ℕ = replicate 4 0 in
    let a = shadow_outcome (0 ∷ 0 ∷ 0 ∷ 1 ∷ []) 1 1 work work (one ∷ []) 0 0 red composite in
    a.number ∷ a.left.picture

pub shadows : (faint false ∷ faint true ∷ []) ≡ ((0 ∷ 1 ∷ 0 ∷ 0 ∷ 1 ∷ []) ∷ (0 ∷ 1 ∷ 0 ∷ 0 ∷ 2 ∷ []) ∷ [])
unfolding chan painted cleared laid build max_side mode_of first_else first_of zero_or_above wrong_sides wrong_length too_short max_taps wrong_taps max_decimations too_deep wrong_edge settled place sample finite outside_unit any_outside round_half_up to_byte whole_offset is_nan lt add sub mul div of_int premultiply blurred_or_kept moved shifted shifted_picture wrong_offsets norm norm_byte at_most_one shadow_alpha over tinted shadow_of coloured composed written cast shadowed either_short not_finite wrong_colour shadow_outcome
shadows = refl
