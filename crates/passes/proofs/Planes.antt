-- How many bytes a pass over lines makes, and bytes at equal places.
use mathlib.Core.Path.{◌≡◌, ap}
use mathlib.Core.List.{List}
use Prim.Native.Nat.{ℕ, ◌*◌}
use lib.ListN.{length, get_or}
use Rattle.picture.proofs.Build.{length_build}
use Rattle.passes.specs.Passes.{Pass}
use Rattle.passes.specs.Written.{passed}

-- as many bytes as the lines have
pub length_passed : (f : Pass) (src : List ℕ) (lines len out stride : ℕ) → length (passed f src lines len out stride) ≡ lines * (out * stride)
unfolding passed
length_passed f src lines len out stride = length_build _ _

-- what stands at one index stands at an equal one
pub at : (l : List ℕ) {i j : ℕ} → i ≡ j → get_or l i 0 ≡ get_or l j 0
at l e = ap (λ (i : ℕ). get_or l i 0) e
