-- Runs of a line, and what a whole-number convolution of lines asks of them.
use Rattle.std.specs.Prelude.{◌≡◌, List, ℕ, ◌+◌, ◌*◌, ◌/◌, ◌≤◌, ◌<◌}
use Rattle.passes.specs.Lines.{Lines}
use Rattle.grid_sums.specs.Room.{Numerators, TapRun}
use Rattle.grid_sums.specs.declared.LineRun.{LineRun}

-- the most lanes of a run: the code's LANES
abbrev pub sum_lanes : ℕ
sum_lanes = 1024

-- a run at byte p of a line: it ends with the line at the latest, and each tap reads its lanes in one run
pub record RunAt (len stride taps p : ℕ) (r : LineRun) : Type 0 where
  pub at : r.x * stride + r.from ≡ p
  pub some : 0 < r.n
  pub few : r.n ≤ sum_lanes
  pub x_high : r.x < len
  pub ends : p + r.n ≤ len * stride
  pub tap : (j : ℕ) → j < taps → TapRun r.inner (r.x + j) (taps / 2) len stride r.from r.n

-- numerators, and lines that stay as long
pub record WholeLines (src dst ms : List ℕ) (lines len stride : ℕ) : Type 0 where
  pub kernel : Numerators ms
  pub lined : Lines src dst lines len len stride
