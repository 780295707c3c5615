-- A picture of a plate, as the numbers that C gets.
use Rattle.std.specs.Prelude.{ℕ}
use Rattle.plate.specs.Lookup.{Picture}

-- a picture of a plate behind four pointers
abbrev pub picture_in : ℕ → ℕ → ℕ → ℕ → Picture
picture_in width height offset length = record { width = width; height = height; offset = offset; length = length }
