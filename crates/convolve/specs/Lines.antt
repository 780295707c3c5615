-- What a convolution of lines asks of them.
use Rattle.std.specs.Prelude.{List, ℕ, Float}
use Rattle.passes.specs.Kernel.{Kernel}
use Rattle.passes.specs.Lines.{Lines}

-- weights, and lines that stay as long
pub record ConvolveLines (src dst : List ℕ) (weights : List Float) (lines len stride : ℕ) : Type 0 where
  pub kernel : Kernel weights
  pub lined : Lines src dst lines len len stride

-- lines of at most this many values, with those that the taps read beyond their ends, go in a buffer as large: the code's SHORT, where its reason stands
abbrev pub short : ℕ
short = 1280
