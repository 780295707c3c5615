-- Calls of `share` worked out, from the definitions.
use mathlib.Core.Path.{◌≡◌, refl}
use mathlib.Core.List.{[], ◌∷◌}
use Rattle.picture.specs.Sizes.{max_side}
use Rattle.picture.specs.Modes.{mode_of}
use Rattle.picture.specs.Refusal.{first_else, first_of, zero_or_above, wrong_sides, max_taps, wrong_taps, wrong_edge}
use Rattle.picture.specs.Answer.{answered, settled}
use Rattle.edges.specs.Edges.{place, sample}
use Rattle.binary32.specs.Grid.{sum}
use Rattle.binary32.specs.Taps.{sum_to}
use Rattle.passes.specs.Blur.{blur}
use Rattle.grid_sums.specs.Sums.{grid_sum, heavy}
use Rattle.exact_blur.specs.Exact.{exact_halve, exact_double}
use Rattle.share_laws.specs.Share.{share}
use Rattle.share_checks.specs.Checks.{max_share_depth, too_deep_to_share, place_outside}
use Rattle.share_checks.proofs.Numerators.{quarters, whole}
use Rattle.shares.specs.Outcome.{share_outcome}

-- 3 by 1, output 0, input 2: a quarter under Wrap, and nothing under None; output 1, input 0 of taps of which the first alone weighs; 1 by 1 at n = 3
pub share-calls :
    (share_outcome 3 1 quarters 0 1 0 2 ∷ share_outcome 3 1 quarters 0 3 0 2 ∷ share_outcome 3 1 (65536 ∷ 0 ∷ []) 0 2 1 0 ∷ share_outcome 1 1 whole 3 0 0 0 ∷ [])
    ≡ (answered 0 1073741824 ∷ answered 0 0 ∷ answered 0 4294967296 ∷ answered 0 4611686018427387904 ∷ [])
unfolding share_outcome settled first_of first_else wrong_sides zero_or_above max_side wrong_taps max_taps wrong_edge too_deep_to_share max_share_depth place_outside heavy sum mode_of share blur exact_halve exact_double grid_sum sum_to sample place
share-calls = refl

-- each refusal in front of the later ones: sides, taps, edge, depth, either place, sum
pub share-refusals :
    (share_outcome 0 1 [] 4 4 9 9 ∷ share_outcome 1 1 [] 4 4 9 9 ∷ share_outcome 1 1 (65537 ∷ []) 4 4 9 9 ∷ share_outcome 1 1 (65537 ∷ []) 4 3 9 9 ∷ share_outcome 1 1 (65537 ∷ []) 3 3 1 0 ∷ share_outcome 1 1 (65537 ∷ []) 3 3 0 1 ∷ share_outcome 1 1 (65537 ∷ []) 3 3 0 0 ∷ [])
    ≡ (answered 1 0 ∷ answered 4 0 ∷ answered 9 0 ∷ answered 21 0 ∷ answered 22 0 ∷ answered 22 0 ∷ answered 14 0 ∷ [])
unfolding share_outcome settled first_of first_else wrong_sides zero_or_above max_side wrong_taps max_taps wrong_edge too_deep_to_share max_share_depth place_outside heavy sum
share-refusals = refl
