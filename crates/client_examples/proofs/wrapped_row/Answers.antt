-- The blur's own promise, worked out at this call: under the names below, each side computes.
use mathlib.Core.Path.{ap}
use lib.Ieee.{is_nan, lt, add, mul, of_int, of_bits}
use Rattle.picture.specs.Answer.{Answer, settled, Lent}
use Rattle.picture.specs.Build.{build}
use Rattle.picture.specs.Modes.{mode_of}
use Rattle.picture.specs.Planes.{chan, painted}
use Rattle.picture.specs.Refusal.{first_else, first_of, zero_or_above, wrong_sides, wrong_length, too_short, max_taps, wrong_taps, max_decimations, too_deep, wrong_edge}
use Rattle.picture.specs.Sizes.{max_side}
use Rattle.edges.specs.Edges.{place, sample}
use Rattle.binary32.specs.Ranges.{finite, outside_unit, any_of, any_outside}
use Rattle.binary32.specs.Round.{round_half_up, to_byte}
use Rattle.binary32.specs.Taps.{tap, taps}
use Rattle.passes.specs.Passes.{halve, double, convolve}
use Rattle.passes.specs.Blur.{blur}
use Rattle.gaussian_blur.specs.Blurred.{blurred}
use Rattle.gaussian_blur.specs.Outcome.{blurred_or_kept, blur_outcome}
use Rattle.client_examples.proofs.wrapped_row.Goals as goal

pub returns : goal.returns
unfolding blur_outcome settled first_of first_else zero_or_above wrong_sides max_side wrong_length too_short wrong_taps max_taps any_of any_outside outside_unit too_deep max_decimations finite wrong_edge mode_of blurred_or_kept blurred painted chan build blur halve double convolve sample place taps tap to_byte round_half_up is_nan lt add mul of_int of_bits
returns c = ap (λ (a : Answer Lent). a.left.picture) c.blur.ensures
