-- Calls of `blur_whole` worked out, from the definitions.
use mathlib.Core.Path.{◌≡◌, refl}
use mathlib.Core.List.{List, [], ◌∷◌}
use Prim.Native.Nat.{ℕ}
use lib.ListN.{replicate}
use Rattle.picture.specs.Build.{build}
use Rattle.picture.specs.Modes.{mode_of}
use Rattle.picture.specs.Planes.{chan, painted, laid, cleared}
use Rattle.picture.specs.Sizes.{max_side}
use Rattle.picture.specs.Refusal.{first_else, first_of, zero_or_above, wrong_sides, wrong_length, too_short, max_taps, wrong_taps, max_decimations, too_deep, wrong_edge}
use Rattle.picture.specs.Answer.{answered, lent, settled}
use Rattle.edges.specs.Edges.{place, sample}
use Rattle.binary32.specs.Grid.{sum}
use Rattle.binary32.specs.Taps.{sum_to}
use Rattle.passes.specs.Blur.{blur}
use Rattle.grid_sums.specs.Sums.{heavy, grid_sum, whole_convolve}
use Rattle.whole_blur.specs.Blurred.{whole_blurred}
use Rattle.whole_blur.specs.Outcome.{whole_checks, whole_outcome}

-- too many numerators, that are too heavy
abbrev many : List ℕ
many = replicate 34 65536

-- each check in its place, of a call that fails all that come after it too, and none left
pub refusals :
    (first_of (whole_checks 3 0 1 3 many 15 4)
    ∷ first_of (whole_checks 3 1 1 3 many 15 4)
    ∷ first_of (whole_checks 4 1 1 3 many 15 4)
    ∷ first_of (whole_checks 4 1 1 4 many 15 4)
    ∷ first_of (whole_checks 4 1 1 4 (65536 ∷ 1 ∷ []) 15 4)
    ∷ first_of (whole_checks 4 1 1 4 (65536 ∷ []) 15 4)
    ∷ first_of (whole_checks 4 1 1 4 (65536 ∷ []) 14 4)
    ∷ first_of (whole_checks 4 1 1 4 (65536 ∷ []) 14 3)
    ∷ [])
    ≡ (1 ∷ 2 ∷ 3 ∷ 4 ∷ 14 ∷ 6 ∷ 9 ∷ 0 ∷ [])
unfolding first_of first_else zero_or_above wrong_sides max_side wrong_length too_short max_taps wrong_taps max_decimations too_deep wrong_edge heavy sum
refusals = refl

-- 2 by 1 pixels under two equal taps, which read x - 1 and x
abbrev given : List ℕ
given = 0 ∷ 10 ∷ 20 ∷ 100 ∷ 5 ∷ 10 ∷ 31 ∷ 201 ∷ []

-- done, with the scratch zero where it was used; and refused, with both as they were
pub calls :
    (whole_outcome given 2 1 (7 ∷ 7 ∷ 7 ∷ 7 ∷ 7 ∷ 7 ∷ 7 ∷ 7 ∷ 7 ∷ []) (32768 ∷ 32768 ∷ []) 0 0 ∷ whole_outcome given 2 1 given (32768 ∷ 32769 ∷ []) 0 0 ∷ [])
    ≡ (answered 0 (lent (0 ∷ 10 ∷ 20 ∷ 100 ∷ 3 ∷ 10 ∷ 26 ∷ 151 ∷ []) (0 ∷ 0 ∷ 0 ∷ 0 ∷ 0 ∷ 0 ∷ 0 ∷ 0 ∷ 7 ∷ [])) ∷ answered 14 (lent given given) ∷ [])
unfolding whole_outcome settled first_of first_else zero_or_above wrong_sides max_side wrong_length too_short max_taps wrong_taps max_decimations too_deep wrong_edge heavy sum
    mode_of whole_blurred painted build chan blur whole_convolve grid_sum sum_to sample place laid cleared
calls = refl
