-- Numerators as weights: m / 65536 in binary32 is exact for m up to 65536, and what is on the grid passes check 5.
use mathlib.Core.Path.{◌≡◌, refl, subst}
use mathlib.Core.Bool.{true, false}
use mathlib.Core.List.{List, [], ◌∷◌, map}
use Prim.Native.Nat.{ℕ, ◌≤◌}
use native.Mathlib.Omega.{arith}
use lib.Ieee.{Float}
use lib.ListN.{length, get_or}
use Rattle.binary32.specs.Ranges.{outside_unit, any_of, any_outside}
use Rattle.binary32.specs.Grid.{on_grid, numerator, all_on_grid, sum}
use Rattle.binary32.specs.Taps.{sum_to}
use Rattle.binary32.proofs.Values.{value→is}
use Rattle.binary32.proofs.Rounded.{grid_exact}
use Rattle.binary32.proofs.Grid.{grid_of}
use Rattle.binary32.proofs.Conditions.{none_passes}
use Rattle.binary32.proofs.Kernels.{weight, grid_weights, grid_weights_of}
use Rattle.exact_blur.proofs.Near.{numerators_sum}
use Rattle.profiles.specs.Same.{weight_on_grid, HaveWeights}

weight_on : (m : ℕ) → m ≤ 65536 → (on_grid (weight_on_grid m) ≡ true) × (numerator (weight_on_grid m) ≡ m)
weight_on m l = grid_of (weight_on_grid m) m l (value→is (weight_on_grid m) m 65536 (grid_exact m (omega arith)))

pub have_weights : HaveWeights
unfolding all_on_grid any_of sum
have_weights [] l = record { on_grid = refl; are = refl }
have_weights (m ∷ ms) l =
    let one = weight_on m (omega arith) in
    let more = have_weights ms (omega arith) in
    record { on_grid = rw one.0 more.on_grid; are = rw (one.1, more.are) }

-- check 5 lets every weight on the grid through
pub grid_inside : (ws : List Float) → all_on_grid ws ≡ true → any_outside ws ≡ false
unfolding any_outside
grid_inside ws e = (none_passes outside_unit ws).1 (grid_weights (weight ws) (length ws) (grid_weights_of ws e))

-- the sum of numerators by their index, as that of the weights that they are
pub sum_is : (ms : List ℕ) → sum ms ≤ 65536 → sum_to (λ j. get_or ms j 0) (length ms) ≡ sum ms
sum_is ms fits = subst (λ (k : List ℕ). sum_to (λ j. get_or k j 0) (length k) ≡ sum k) (have_weights ms fits).are (numerators_sum (map weight_on_grid ms))
