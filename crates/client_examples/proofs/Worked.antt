-- One concrete call of each entry that the examples do not call, worked out: the names to unfold are on its line.
-- (The spread's are in `spread/proofs/Examples.antt`.)
use mathlib.Core.Path.{◌≡◌, refl}
use mathlib.Core.Bool.{false}
use mathlib.Core.List.{List, [], ◌∷◌}
use Prim.Native.Nat.{ℕ}
use lib.IntN.{pos, negsuc}
use lib.Ieee.{fin, is_nan, lt, add, sub, mul, div, of_int}
use Rattle.picture.specs.Answer.{answered, settled, lent, lent_copy}
use Rattle.picture.specs.Build.{build}
use Rattle.picture.specs.Modes.{mode_of}
use Rattle.picture.specs.Planes.{chan, painted, cleared, laid}
use Rattle.picture.specs.Refusal.{first_else, first_of, zero_or_above, wrong_sides, wrong_length, too_short, max_taps, wrong_taps, max_decimations, too_deep, wrong_edge}
use Rattle.picture.specs.Sizes.{max_side}
use Rattle.edges.specs.Edges.{place, sample}
use Rattle.edges.specs.Whole.{place_of}
use Rattle.binary32.specs.Ranges.{zero32, one32, finite, outside_unit, any_of, any_outside}
use Rattle.binary32.specs.Round.{round_half_up, to_byte, whole_offset}
use Rattle.binary32.specs.Taps.{tap, taps}
use Rattle.passes.specs.Passes.{halve, double, convolve}
use Rattle.passes.specs.Blur.{blur}
use Rattle.gaussian_blur.specs.Blurred.{blurred}
use Rattle.gaussian_blur.specs.Outcome.{blurred_or_kept}
use Rattle.shift.specs.Shift.{moved, shifted, shifted_picture}
use Rattle.shift.specs.Outcome.{wrong_offsets}
use Rattle.composite.specs.Channels.{norm, norm_byte, at_most_one, shadow_alpha, over}
use Rattle.composite.specs.Shadow.{tinted, shadow_of, coloured, composed, written}
use Rattle.drop_shadow.specs.Shadowed.{cast, shadowed}
use Rattle.drop_shadow.specs.Outcome as shadow
use Rattle.drop_shadow.specs.declared.Recipe.{Recipe}
use Rattle.pixels.specs.Channels.{exceeds, premultiply}
use Rattle.grading.specs.Premultiplied.{found_at, first_from, scanned, checked}
use Rattle.grading.specs.Sampling.{view_refusal, sampled}
use Rattle.plate_numbers.specs.Numbers.{u16_at, u32_at, newest, known_to, labelled, entry_size, largest_side, larger, largest_whole, wrong_unit}
use Rattle.plate_format.specs.Format.{max_count, label_at, entry_of, body_offset, wrong_sides_of, obeys, all_below, filled, is_plate_to}
use Rattle.plate.specs.Lookup.{looked_up_to, looked_up, beside, labelled_up_to, labelled_up}
use Rattle.body_blur.specs.Blur.{plate_blur}
use Rattle.job.specs.Job as job

-- the shadow alone of one pixel of alpha 255: red, half opaque, where the pixel is
red : Recipe
red =
    record {
      dx = zero32;
      dy = zero32;
      strength = one32;
      red = one32;
      green = zero32;
      blue = zero32;
      alpha = fin false 1 (negsuc 0);
    }

shadowed-pixel :
    shadow.shadow_outcome (0 ∷ 0 ∷ 0 ∷ 255 ∷ []) 1 1 (7 ∷ 7 ∷ 7 ∷ 7 ∷ []) (8 ∷ 8 ∷ 8 ∷ 8 ∷ 8 ∷ []) (one32 ∷ []) 0 0 red false
    ≡ answered 0 (lent_copy (128 ∷ 0 ∷ 0 ∷ 128 ∷ []) (0 ∷ 0 ∷ 0 ∷ 0 ∷ []) (0 ∷ 0 ∷ 0 ∷ 0 ∷ 8 ∷ []))
unfolding red shadow.shadow_outcome settled first_of first_else zero_or_above wrong_sides max_side wrong_length shadow.either_short too_short wrong_taps max_taps any_of any_outside outside_unit too_deep max_decimations shadow.not_finite wrong_offsets finite shadow.wrong_colour wrong_edge mode_of cleared laid shadowed cast written composed coloured shadow_of tinted premultiply shadow_alpha at_most_one norm_byte norm over shifted_picture shifted moved whole_offset blurred_or_kept blurred painted chan build blur halve double convolve sample place taps tap to_byte round_half_up is_nan lt add sub mul div of_int
shadowed-pixel = refl

-- of two pixels the second has a red that exceeds its alpha
found_second : checked (0 ∷ 0 ∷ 0 ∷ 0 ∷ 9 ∷ 0 ∷ 0 ∷ 8 ∷ []) 2 1 ≡ answered 0 (found_at 1)
unfolding checked settled first_of first_else zero_or_above wrong_sides max_side wrong_length scanned first_from exceeds
found_second = refl

-- the pixel at -1, 5 of one pixel under Wrap
wrapped_pixel : sampled (1 ∷ 2 ∷ 3 ∷ 4 ∷ []) 1 1 1 (negsuc 0) (pos 5) ≡ record { r = 1; g = 2; b = 3; a = 4 }
unfolding sampled view_refusal first_of first_else zero_or_above wrong_sides max_side wrong_length wrong_edge mode_of place_of
wrapped_pixel = refl

-- a plate of one pixel: its picture, and the job
abbrev file : List ℕ
file = 1 ∷ 0 ∷ 1 ∷ 0 ∷ 1 ∷ 0 ∷ 1 ∷ 0 ∷ 16 ∷ 0 ∷ 0 ∷ 0 ∷ 4 ∷ 0 ∷ 0 ∷ 0 ∷ 10 ∷ 20 ∷ 30 ∷ 255 ∷ []

first_picture : looked_up file 0 ≡ answered 0 (record { width = 1; height = 1; offset = 16; length = 4 })
unfolding looked_up_to settled first_of first_else is_plate_to filled all_below obeys wrong_unit wrong_sides_of body_offset entry_of label_at larger largest_whole largest_side entry_size labelled max_count known_to newest u32_at u16_at zero_or_above wrong_length max_side
first_picture = refl

-- of version 1: no unit and no sheet
no_label : labelled_up file 0 ≡ answered 0 (beside 0 0)
unfolding labelled_up_to settled first_of first_else is_plate_to filled all_below obeys wrong_unit wrong_sides_of body_offset entry_of label_at larger largest_whole largest_side entry_size labelled max_count known_to newest u32_at u16_at zero_or_above wrong_length max_side
no_label = refl

one_body : job.job_outcome plate_blur file (7 ∷ 7 ∷ 7 ∷ 7 ∷ 7 ∷ []) ≡ answered 0 (lent file (0 ∷ 0 ∷ 0 ∷ 0 ∷ 7 ∷ []))
unfolding job.job_outcome_to job.jobbed_below job.longest_below plate_blur settled first_of first_else is_plate_to filled all_below obeys wrong_unit wrong_sides_of body_offset entry_of label_at larger largest_whole largest_side entry_size labelled max_count known_to newest u32_at u16_at zero_or_above wrong_length max_side cleared laid blurred_or_kept blurred painted chan build blur halve double convolve sample place taps tap to_byte round_half_up lt add mul of_int
one_body = refl
