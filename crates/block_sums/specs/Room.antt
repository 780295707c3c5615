-- What the convolution of a block asks of its kernel, its line and its buffer.
use Rattle.std.specs.Prelude.{List, ℕ, ◌+◌, ◌-◌, ◌*◌, ◌≤◌, ◌<◌, min, Float, length}
use Rattle.picture.specs.Sizes.{side_room}
use Rattle.picture.specs.Refusal.{max_taps}
use Rattle.passes.specs.Kernel.{Kernel}

-- a line that can be convolved
pub record Source (src : List ℕ) (weights : List Float) (start len stride : ℕ) : Type 0 where
  pub kernel : Kernel weights
  pub len_high : len ≤ side_room
  pub stride_low : 0 < stride
  pub end : start + len * stride ≤ length src

-- elements of at most this many bytes are taken whole, others in strips: the code's WHOLE, where its reason stands
abbrev pub whole : ℕ
whole = 32

-- the most lanes of a strip: the code's LANES
abbrev pub lanes : ℕ
lanes = 128

-- room for blocks of at most `most` elements of stride bytes: for the values of a strip, with those that the taps read beyond its elements
pub record BlockRoom (line : List Float) (stride most : ℕ) : Type 0 where
  pub some : 0 < most
  pub values : (most + (max_taps - 1)) * min stride lanes ≤ length line
