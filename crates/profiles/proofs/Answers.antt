-- The two entries answer alike: check 14 stands in the place of 5, and both let the kernel through.
use mathlib.Core.Path.{◌≡◌, sym, ap, ◌∙◌}
use mathlib.Core.Bool.{true}
use mathlib.Core.List.{List}
use Prim.Native.Nat.{ℕ, ◌≤◌}
use borrow.Author.Tests.{le-ltb}
use lib.Ieee.{Float}
use lib.ListN.{length, length-map}
use Rattle.picture.specs.Refusal.{first_else, first_of}
use Rattle.binary32.specs.Ranges.{finite}
use Rattle.binary32.specs.Grid.{sum, numerator}
use Rattle.gaussian_blur.specs.Outcome.{blur_checks, blurred_or_kept, blur_outcome}
use Rattle.grid_sums.specs.Sums.{heavy}
use Rattle.whole_blur.specs.Outcome.{whole_checks, whole_outcome}
use Rattle.profiles.specs.Same.{WeightsOf, SameAnswers}
use Rattle.profiles.proofs.Weights.{grid_inside}
use Rattle.profiles.proofs.Same.{same_as_float}

-- a kernel has as many weights as numerators
as_many : {ms : List ℕ} {weights : List Float} → WeightsOf ms weights → length ms ≡ length weights
as_many {ms} {weights} those = sym (ap length those.are) ∙ length-map weights numerator

same_checks : {ms : List ℕ} {weights : List Float} → WeightsOf ms weights → sum ms ≤ 65536 → (strength : Float) → finite strength ≡ true → (p w h s n edge : ℕ) →
    first_of (whole_checks p w h s ms n edge) ≡ first_of (blur_checks p w h s weights n strength edge)
unfolding first_of first_else heavy
same_checks {ms} {weights} those fits strength number p w h s n edge =
    rw (as_many those, le-ltb 65536 (sum ms) fits, grid_inside weights those.on_grid, number)

pub same_answers : SameAnswers
unfolding whole_outcome blur_outcome blurred_or_kept
same_answers ms weights those fits strength number above p w h s n edge bytes =
    rw (same_checks those fits strength number (length p) w h (length s) n edge, same_as_float ms weights those fits _ n w h p bytes, above)
