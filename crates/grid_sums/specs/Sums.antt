-- Kernels of whole numbers: numerators over 65536, their sum, and the convolution that they are.
use Rattle.std.specs.Prelude.{ℕ, ◌+◌, ◌*◌, ◌/◌, Bool, List, ltb, length, get_or}
use Rattle.picture.specs.declared.EdgeMode.{EdgeMode}
use Rattle.edges.specs.Edges.{sample}
use Rattle.binary32.specs.Grid.{sum}
use Rattle.binary32.specs.Taps.{sum_to}
use Rattle.passes.specs.Passes.{Pass}

-- 14: the numerators sum to more than 65536; the sum is of natural numbers
unfoldable pub heavy : List ℕ → Bool
heavy ms = ltb 65536 (sum ms)

-- tap j samples x + j - floor(k/2), in numerator j
unfoldable pub grid_sum : EdgeMode → List ℕ → Pass
grid_sum mode ms s line x = sum_to (λ j. sample mode s line (x + j) (length ms / 2) * get_or ms j 0) (length ms)

-- the convolution: the sum over 65536, rounded once, halves upward
unfoldable pub whole_convolve : EdgeMode → List ℕ → Pass
whole_convolve mode ms s line x = (grid_sum mode ms s line x + 32768) / 65536
