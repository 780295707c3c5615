-- Bytes of a line that is convolved: which of them have been made.
use Rattle.std.specs.Prelude.{List, ℕ, ◌/◌, ◌%◌, ◌≤◌, ◌<◌, Float}
use Rattle.picture.specs.declared.EdgeMode.{EdgeMode}
use Rattle.passes.specs.Passes.{convolve}
use Rattle.passes.specs.Written.{line_byte}
use Rattle.blocks.specs.Blocks.{Made}

-- of the bytes made of the line at start, those of R are what the convolution makes
abbrev pub Convolved : EdgeMode → List Float → List ℕ → ℕ → ℕ → ℕ → (ℕ → Type 0) → List ℕ → List ℕ → Type 0
Convolved mode weights src start len stride R old new = Made 0 (line_byte (convolve mode weights) src start len stride) R old new

-- the bytes of the elements x up to y
abbrev pub Elements : ℕ → ℕ → ℕ → ℕ → Type 0
Elements stride x y j = (x ≤ j / stride) × (j / stride < y)

-- the bytes of the lanes p up to q of the elements x up to y
abbrev pub Strip : ℕ → ℕ → ℕ → ℕ → ℕ → ℕ → Type 0
Strip stride x y p q j = (x ≤ j / stride) × (j / stride < y) × (p ≤ j % stride) × (j % stride < q)
