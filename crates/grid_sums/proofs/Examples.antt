-- Sums and outputs worked out, from the definitions.
use mathlib.Core.Path.{◌≡◌, refl}
use mathlib.Core.Bool.{true, false}
use mathlib.Core.List.{[], ◌∷◌}
use lib.ListN.{replicate}
use Rattle.picture.specs.Buffers.{line_of}
use Rattle.picture.specs.declared.EdgeMode.TheVariants.{Duplicate, Wrap, Mirror, None}
use Rattle.edges.specs.Edges.{place, sample}
use Rattle.binary32.specs.Grid.{sum}
use Rattle.binary32.specs.Taps.{sum_to}
use Rattle.grid_sums.specs.Sums.{heavy, grid_sum, whole_convolve}

-- none; exactly 65536; one more; two that wrap to 0 in 32 bits; and the most that there may be
pub heavy-lists :
    (heavy [] ∷ heavy (1 ∷ 65535 ∷ []) ∷ heavy (65536 ∷ 1 ∷ []) ∷ heavy (2147483648 ∷ 2147483648 ∷ []) ∷ heavy (replicate 33 4294967295) ∷ [])
    ≡ (false ∷ false ∷ true ∷ true ∷ true ∷ [])
unfolding heavy sum
heavy-lists = refl

-- of 10, 20, 31: two taps read x - 1 and x, and 25.5 becomes 26; the third of three taps reads x + 1, past the end by the edge rule
pub outputs :
    (whole_convolve Duplicate (32768 ∷ 32768 ∷ []) 3 (line_of (10 ∷ 20 ∷ 31 ∷ [])) 2
    ∷ whole_convolve Wrap (0 ∷ 0 ∷ 65536 ∷ []) 3 (line_of (10 ∷ 20 ∷ 31 ∷ [])) 2
    ∷ whole_convolve Mirror (0 ∷ 0 ∷ 65536 ∷ []) 3 (line_of (10 ∷ 20 ∷ 31 ∷ [])) 2
    ∷ whole_convolve None (0 ∷ 0 ∷ 65536 ∷ []) 3 (line_of (10 ∷ 20 ∷ 31 ∷ [])) 2
    ∷ [])
    ≡ (26 ∷ 10 ∷ 31 ∷ 0 ∷ [])
unfolding whole_convolve grid_sum sum_to sample place
outputs = refl
