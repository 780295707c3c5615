-- Calls of `list` worked out, from the definitions.
use mathlib.Core.Path.{◌≡◌, refl}
use mathlib.Core.List.{List, [], ◌∷◌}
use Prim.Native.Nat.{ℕ}
use Rattle.picture.specs.Sizes.{max_side}
use Rattle.picture.specs.Modes.{mode_of}
use Rattle.picture.specs.Refusal.{first_else, first_of, zero_or_above, wrong_sides, max_taps, wrong_taps, wrong_edge}
use Rattle.picture.specs.Answer.{answered, settled}
use Rattle.edges.specs.Edges.{place, sample}
use Rattle.binary32.specs.Grid.{sum}
use Rattle.binary32.specs.Taps.{sum_to}
use Rattle.passes.specs.Blur.{blur}
use Rattle.grid_sums.specs.Sums.{grid_sum, heavy}
use Rattle.share_laws.specs.Share.{share}
use Rattle.mending.specs.Changes.{laid_entries}
use Rattle.points.specs.Points.{points_below}
use Rattle.share_checks.specs.Checks.{max_share_depth, too_deep_to_share, place_outside}
use Rattle.share_checks.proofs.Numerators.{quarters, whole}
use Rattle.share_lists.specs.Listing.{points_left, list_outcome}

-- an entry that no rule writes
abbrev other : List ℕ
other = 6 ∷ 7 ∷ []

-- 3 by 1 under None, output 0, with room for three, and for one; 2 by 2, output 2, with room for just its point; numerators of 0, with no room
pub list-calls :
    (list_outcome 3 1 quarters 0 3 0 (other ∷ other ∷ other ∷ []) ∷ list_outcome 3 1 quarters 0 3 0 (other ∷ []) ∷ list_outcome 2 2 whole 0 0 2 (other ∷ []) ∷ list_outcome 1 1 (0 ∷ []) 0 0 0 [] ∷ [])
    ≡ (answered 0 (points_left ((0 ∷ 1073741824 ∷ []) ∷ (1 ∷ 536870912 ∷ []) ∷ other ∷ []) 2) ∷ answered 17 (points_left (other ∷ []) 0) ∷ answered 0 (points_left ((2 ∷ 4294967296 ∷ []) ∷ []) 1) ∷ answered 0 (points_left [] 0) ∷ [])
unfolding list_outcome settled first_of first_else wrong_sides zero_or_above max_side wrong_taps max_taps wrong_edge too_deep_to_share max_share_depth place_outside heavy sum mode_of share blur grid_sum sum_to sample place points_below laid_entries
list-calls = refl
