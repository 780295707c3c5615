-- The whole-number convolution looks only at the elements of its line.
use mathlib.Core.List.{List}
use Rattle.picture.specs.declared.EdgeMode.{EdgeMode}
use Rattle.passes.proofs.Local.{Local, same_samples}
use Rattle.grid_sums.specs.Sums.{grid_sum, whole_convolve}
use Prim.Native.Nat.{ℕ}

pub whole_local : (mode : EdgeMode) (ms : List ℕ) → Local (whole_convolve mode ms)
unfolding whole_convolve grid_sum
whole_local mode ms s p q z h x = rw (same_samples mode s p q z h)
