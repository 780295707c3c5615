-- The exact blur: the blur's own passes, edges and level sizes, without any floor or rounding. Each pass leaves its divisor out,
-- 8 for halving, 4 for doubling and 65536 for the convolution, so that rows and columns together give a whole number over 2^(10n+32).
use Rattle.std.specs.Prelude.{ℕ, ◌+◌, ◌*◌, ◌/◌, ◌%◌, ◌^◌, cond, List, eqb}
use Rattle.picture.specs.Planes.{Plane}
use Rattle.picture.specs.declared.EdgeMode.{EdgeMode}
use Rattle.edges.specs.Edges.{sample}
use Rattle.passes.specs.Passes.{Pass}
use Rattle.passes.specs.Blur.{blur}
use Rattle.grid_sums.specs.Sums.{grid_sum}

-- halving weights 1, 3, 3, 1 over 8
unfoldable pub exact_halve : EdgeMode → Pass
exact_halve mode s line x =
    sample mode s line (2 * x) 1 + 3 * sample mode s line (2 * x) 0 + 3 * sample mode s line (2 * x + 1) 0 + sample mode s line (2 * x + 2) 0

-- doubling weights 1, 3 over 4
unfoldable pub exact_double : EdgeMode → Pass
exact_double mode s line y =
    cond (eqb (y % 2) 0)
    (sample mode s line (y / 2) 1 + 3 * sample mode s line (y / 2) 0)
    (3 * sample mode s line (y / 2) 0 + sample mode s line (y / 2 + 1) 0)

-- numerators over 65536: the sum that the blur in whole numbers rounds
abbrev pub exact_convolve : EdgeMode → List ℕ → Pass
exact_convolve mode numerators = grid_sum mode numerators

-- the same scheme at the exact passes
abbrev pub exact_blur : EdgeMode → List ℕ → ℕ → ℕ → ℕ → Plane → Plane
exact_blur mode numerators n w h p = blur (exact_halve mode) (exact_double mode) (exact_convolve mode numerators) n w h p

-- what the exact blur with n decimations is over
abbrev pub scale_of : ℕ → ℕ
scale_of n = 2 ^ (10 * n + 32)
