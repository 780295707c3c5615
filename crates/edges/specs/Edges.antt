-- The edge rules, and samples of a line. A coordinate is a pair (c, d) of naturals that stands for c - d.
use Rattle.std.specs.Prelude.{◌≡◌, ℕ, ◌+◌, ◌-◌, ◌*◌, ◌%◌, ◌^◌, ◌<◌, ◌≤◌, cond, nat_lt, Option, Some}
use Rattle.picture.specs.Planes.{Line}
use Rattle.picture.specs.Sizes.{side_room}
use Rattle.picture.specs.declared.EdgeMode.{EdgeMode}
use Rattle.picture.specs.declared.EdgeMode.TheVariants.{Duplicate, Wrap, Mirror, None}

-- c - d if it is inside, else `low` where it is below 0 and `high` where it is above s - 1
abbrev pub inside_or : Option ℕ → Option ℕ → ℕ → ℕ → ℕ → Option ℕ
inside_or low high s c d = cond (nat_lt c d) low (cond (nat_lt (c - d) s) (Some (c - d)) high)

-- c - d modulo n, 0 to n - 1
abbrev pub modulo : ℕ → ℕ → ℕ → ℕ
modulo n c d = (c + d * (n - 1)) % n

-- m if below s, else 2s - 1 - m
abbrev pub reflected : ℕ → ℕ → Option ℕ
reflected s m = cond (nat_lt m s) (Some m) (Some (2 * s - 1 - m))

-- the element of a line of s elements that the coordinate c - d reads
unfoldable pub place : EdgeMode → ℕ → ℕ → ℕ → Option ℕ
place Duplicate s c d = inside_or (Some 0) (Some (s - 1)) s c d
place Wrap s c d = Some (modulo s c d)
place Mirror s c d = reflected s (modulo (2 * s) c d)
place None s c d = inside_or Option.None Option.None s c d

-- what stands at a place of a line: 0 outside
abbrev pub value_at : Option ℕ → Line → ℕ
value_at (Some i) line = line i
value_at Option.None line = 0

-- the line at the coordinate c - d, by the edge rule
unfoldable pub sample : EdgeMode → ℕ → Line → ℕ → ℕ → ℕ
sample mode s line c d = value_at (place mode s c d) line

-- a place that is one of s elements, or outside
abbrev pub Below : Option ℕ → ℕ → Type 0
Below (Some i) s = i < s
Below Option.None s = Unit

-- i is the element of s that stands at a place, if it is one of them at all
abbrev pub Reads : Option ℕ → ℕ → ℕ → Type 0
Reads p s i = i < s → p ≡ Some i

-- i is c - d, modulo 2^64
abbrev pub Difference : ℕ → ℕ → ℕ → Type 0
Difference i c d = (i + d) % 2 ^ 64 ≡ c

-- coordinates are worked out below this, 2^33: each signed 32-bit one, and each pixel's with its taps
abbrev pub farthest : ℕ
farthest = 8589934592

-- what an edge rule can be worked out for: a line with elements and room, and a coordinate that is not too far off
pub record Reach (s c d : ℕ) : Type 0 where
  pub s_low : 0 < s
  pub s_high : s ≤ side_room
  pub c_high : c < farthest
  pub d_high : d < farthest
