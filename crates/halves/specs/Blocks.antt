-- The bytes of a block of pixels, apart and together.
use Rattle.std.specs.Prelude.{List, ℕ, ◌+◌, ◌*◌, ◌/◌, ◌%◌, get_or}

-- byte i of the 80 pixels from pixel m on, channel after channel
abbrev pub apart : List ℕ → ℕ → ℕ → ℕ
apart src m i = get_or src (4 * (m + i % 80) + i / 80) 0

-- byte j of the pixels from pixel m on, which stand in planes of n bytes
abbrev pub together : List ℕ → ℕ → ℕ → ℕ → ℕ
together src n m j = get_or src (j % 4 * n + (m + j / 4)) 0
