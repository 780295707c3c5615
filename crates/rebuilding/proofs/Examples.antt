-- Calls of `mend` and `rebuild` worked out, from the definitions.
use mathlib.Core.Path.{◌≡◌, refl}
use mathlib.Core.List.{List, [], ◌∷◌}
use Prim.Native.Nat.{ℕ}
use Rattle.picture.specs.Build.{build}
use Rattle.picture.specs.Planes.{chan, painted}
use Rattle.picture.specs.Sizes.{max_side}
use Rattle.picture.specs.Refusal.{first_else, first_of, zero_or_above, wrong_sides, wrong_length}
use Rattle.picture.specs.Answer.{answered, settled}
use Rattle.pixels.specs.Pixels.{with_pixel_from}
use Rattle.pixels.specs.Channels.{exceeds}
use Rattle.counting.specs.Counts.{how_many}
use Rattle.mending.specs.Changes.{mended, changes_below, laid_entries}
use Rattle.rebuilding.specs.Restored.{restored, rising}
use Rattle.rebuilding.specs.Outcome.{wrong_list, rebuild_outcome}
use Rattle.mending.specs.Outcome.{mend_left, mend_outcome}

-- 3 by 1 pixels: red above alpha, none, blue above alpha; and as they are mended
abbrev given : List ℕ
given = 9 ∷ 0 ∷ 5 ∷ 5 ∷ 1 ∷ 2 ∷ 3 ∷ 4 ∷ 0 ∷ 0 ∷ 8 ∷ 1 ∷ []

abbrev cured : List ℕ
cured = 5 ∷ 0 ∷ 5 ∷ 5 ∷ 1 ∷ 2 ∷ 3 ∷ 4 ∷ 0 ∷ 0 ∷ 1 ∷ 1 ∷ []

-- the two old pixels, 9, 0, 5, 5 and 0, 0, 8, 1
abbrev first : List ℕ
first = 0 ∷ 84213769 ∷ []

abbrev second : List ℕ
second = 2 ∷ 17301504 ∷ []

-- an entry that no rule writes
abbrev other : List ℕ
other = 6 ∷ 7 ∷ []

-- with room for three; with room for one; mended once more, with no room; and twelve bytes said to be 2 by 1
pub mend-calls :
    (mend_outcome given 3 1 (other ∷ other ∷ other ∷ []) ∷ mend_outcome given 3 1 (other ∷ []) ∷ mend_outcome cured 3 1 [] ∷ mend_outcome given 2 1 [] ∷ [])
    ≡ (answered 0 (mend_left cured (first ∷ second ∷ other ∷ []) 2) ∷ answered 17 (mend_left given (other ∷ []) 0) ∷ answered 0 (mend_left cured [] 0) ∷ answered 2 (mend_left given [] 0) ∷ [])
unfolding mend_outcome settled first_of first_else wrong_sides zero_or_above max_side wrong_length mended painted build chan how_many changes_below laid_entries exceeds
mend-calls = refl

-- both entries back; one place twice; the places falling; place 3; no entry at all
pub rebuild-calls :
    (rebuild_outcome cured 3 1 (first ∷ second ∷ []) ∷ rebuild_outcome cured 3 1 (first ∷ first ∷ []) ∷ rebuild_outcome cured 3 1 (second ∷ first ∷ []) ∷ rebuild_outcome cured 3 1 ((3 ∷ 0 ∷ []) ∷ []) ∷ rebuild_outcome cured 3 1 [] ∷ [])
    ≡ (answered 0 given ∷ answered 18 cured ∷ answered 18 cured ∷ answered 18 cured ∷ answered 0 cured ∷ [])
unfolding rebuild_outcome settled first_of first_else wrong_sides zero_or_above max_side wrong_length wrong_list rising restored with_pixel_from
rebuild-calls = refl
