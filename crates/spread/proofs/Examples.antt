-- Reports of a few kernels: those of rule 9.5, others of one, two and five taps, and one or more for each refusal.
use mathlib.Core.Path.{◌≡◌, refl}
use mathlib.Core.List.{[], ◌∷◌}
use Prim.Native.Nat.{suc}
use lib.Ieee.{Float, nan, binary32, of_bits, is_nan, lt}
use Rattle.picture.specs.Answer.{answered, settled}
use Rattle.picture.specs.Refusal.{first_else, first_of, zero_or_above, max_taps, wrong_taps, max_decimations, too_deep}
use Rattle.binary32.specs.Ranges.{zero32, outside_unit, any_of}
use Rattle.binary32.specs.Grid.{on_grid, numerator, all_on_grid, sum, off_grid}
use Rattle.spread.specs.Spread.{moment, moment_of, decimation_term, spread_of, reported}

-- 1/4, 1/2, 1, 5/4, -1/4, -0
abbrev quarter : Float
quarter = of_bits binary32 0x3E80_0000

abbrev half : Float
half = of_bits binary32 0x3F00_0000

abbrev one : Float
one = of_bits binary32 0x3F80_0000

abbrev five_quarters : Float
five_quarters = of_bits binary32 0x3FA0_0000

abbrev minus_quarter : Float
minus_quarter = of_bits binary32 0xBE80_0000

abbrev minus_zero : Float
minus_zero = of_bits binary32 0x8000_0000

pub reports :
    (reported (quarter ∷ half ∷ quarter ∷ []) 0
    ∷ reported (quarter ∷ half ∷ quarter ∷ []) 1
    ∷ reported (one ∷ []) 2
    ∷ reported (half ∷ half ∷ []) 2
    ∷ reported (half ∷ zero32 ∷ zero32 ∷ zero32 ∷ half ∷ []) 1
    ∷ reported (minus_zero ∷ one ∷ []) 0
    ∷ reported [] (suc max_decimations)
    ∷ reported (nan ∷ []) (suc max_decimations)
    ∷ reported (nan ∷ one ∷ []) 0
    ∷ reported (five_quarters ∷ minus_quarter ∷ []) 0
    ∷ reported (quarter ∷ half ∷ []) 0
    ∷ [])
    ≡ (answered 0 65536
    ∷ answered 0 458752
    ∷ answered 0 983040
    ∷ answered 0 2031616
    ∷ answered 0 2293760
    ∷ answered 0 0
    ∷ answered 4 0
    ∷ answered 6 0
    ∷ answered 11 0
    ∷ answered 11 0
    ∷ answered 11 0
    ∷ [])
unfolding of_bits is_nan lt settled first_of first_else zero_or_above max_decimations too_deep outside_unit any_of on_grid numerator all_on_grid sum off_grid max_taps wrong_taps moment moment_of decimation_term spread_of reported
reports = refl

-- what 0, 1, 2, 12 and 14 decimations add
pub terms : (decimation_term 0 ∷ decimation_term 1 ∷ decimation_term 2 ∷ decimation_term 12 ∷ decimation_term 14 ∷ []) ≡ (0 ∷ 196608 ∷ 983040 ∷ 1099511562240 ∷ 17592185978880 ∷ [])
unfolding decimation_term
terms = refl
