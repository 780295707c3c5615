-- Shares worked out, from the definitions.
use mathlib.Core.Path.{◌≡◌, refl}
use mathlib.Core.List.{List, [], ◌∷◌}
use Prim.Native.Nat.{ℕ}
use Rattle.picture.specs.declared.EdgeMode.TheVariants.{Duplicate, Wrap, Mirror, None}
use Rattle.edges.specs.Edges.{place, sample}
use Rattle.binary32.specs.Taps.{sum_to}
use Rattle.passes.specs.Blur.{blur}
use Rattle.grid_sums.specs.Sums.{grid_sum}
use Rattle.exact_blur.specs.Exact.{exact_halve, exact_double}
use Rattle.share_laws.specs.Share.{share, line_blur, axis_share}

-- a quarter, a half, a quarter
abbrev quarters : List ℕ
quarters = 16384 ∷ 32768 ∷ 16384 ∷ []

-- 3 by 1, n = 0, output 0: input 0 under Duplicate has three quarters of 2^32; input 2 under Wrap a quarter, and under None nothing
pub taps-share :
    (share Duplicate quarters 0 3 1 0 0 0 0 ∷ share Wrap quarters 0 3 1 0 0 2 0 ∷ share None quarters 0 3 1 0 0 2 0 ∷ [])
    ≡ (3221225472 ∷ 1073741824 ∷ 0 ∷ [])
unfolding share blur grid_sum sum_to sample place
taps-share = refl

-- two taps, of which the first alone weighs: output 1 is input 0, and input 1 has no share in output 0
pub one_sided : (share Mirror (65536 ∷ 0 ∷ []) 0 3 1 1 0 0 0 ∷ share Mirror (65536 ∷ 0 ∷ []) 0 3 1 0 0 1 0 ∷ []) ≡ (4294967296 ∷ 0 ∷ [])
unfolding share blur grid_sum sum_to sample place
one_sided = refl

-- along an axis of 3 pixels at n = 1, whose level below has 2, under Wrap: the inputs' shares in output 0 come to 2^21
pub levels-share :
    (axis_share Wrap (65536 ∷ []) 1 3 0 0 ∷ axis_share Wrap (65536 ∷ []) 1 3 0 1 ∷ axis_share Wrap (65536 ∷ []) 1 3 0 2 ∷ []) ≡ (786432 ∷ 720896 ∷ 589824 ∷ [])
unfolding axis_share line_blur exact_halve exact_double grid_sum sum_to sample place
levels-share = refl
