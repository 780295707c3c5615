-- What sums of a run of lanes need: room for them, a kernel that checks 4 and 14 let through, and samples that lie in one run.
use Rattle.std.specs.Prelude.{◌≡◌, Bool, true, false, List, ℕ, ◌+◌, ◌-◌, ◌*◌, ◌/◌, ◌≤◌, ◌<◌, length}
use Rattle.picture.specs.Sizes.{side_room}
use Rattle.picture.specs.Refusal.{wrong_taps}
use Rattle.grid_sums.specs.Sums.{heavy}

-- the most that bytes in numerators sum to: 255 times 65536
abbrev pub most_sum : ℕ
most_sum = 16711680

-- a sum to which a byte in a weight of 16 bits can still be added
abbrev pub sum_room : ℕ
sum_room = 2147483648

-- a kernel that checks 4 and 14 let through
pub record Numerators (ms : List ℕ) : Type 0 where
  pub counted : wrong_taps (length ms) ≡ false
  pub light : heavy ms ≡ false

-- n lanes of what c - d reads, from lane `from` on: of that element alone; or, where they are inner, of it and those after it, all inside
pub record TapRun (inner : Bool) (c d len stride from n : ℕ) : Type 0 where
  pub edge : inner ≡ false → from + n ≤ stride
  pub inside : inner ≡ true → (d ≤ c) × ((c - d) * stride + from + n ≤ len * stride)

-- n lanes of a line, from lane `from` of element x on, that each of so many taps reads in one run
pub record SumRun (src : List ℕ) (start len stride x from n : ℕ) (inner : Bool) (taps : ℕ) : Type 0 where
  pub stride_low : 0 < stride
  pub len_high : len ≤ side_room
  pub x_high : x < len
  pub end : start + len * stride ≤ length src
  pub tap : (j : ℕ) → j < taps → TapRun inner (x + j) (taps / 2) len stride from n
