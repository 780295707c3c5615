-- What the outputs of a line need, and what is left once some of them are made.
use Rattle.std.specs.Prelude.{List, ℕ, ◌+◌, ◌*◌, ◌≤◌, ◌<◌, length}
use Rattle.picture.specs.Sizes.{side_room}
use Rattle.picture.specs.Spans.{Span}
use Rattle.picture.specs.declared.EdgeMode.{EdgeMode}
use Rattle.passes.specs.Passes.{Pass}
use Rattle.passes.specs.Written.{line_byte}

-- a line of len elements within src, and n elements at o within dst
pub record Room (src dst : List ℕ) (start stride len o n : ℕ) : Type 0 where
  pub len_low : 0 < len
  pub len_high : len ≤ side_room
  pub src_ends : start + len * stride ≤ length src
  pub dst_ends : o + n * stride ≤ length dst

-- elements a up to b of the line at o are those of the pass over the line at start, and no other byte has changed
abbrev pub PassPart : Pass → List ℕ → List ℕ → List ℕ → ℕ → ℕ → ℕ → ℕ → ℕ → ℕ → Type 0
PassPart f src old new start stride len o a b = Span 0 old new o (a * stride) (b * stride) (line_byte f src start len stride)

-- the same whatever the edge rule
abbrev pub PassPartInside : (EdgeMode → Pass) → List ℕ → List ℕ → List ℕ → ℕ → ℕ → ℕ → ℕ → ℕ → ℕ → Type 0
PassPartInside f src old new start stride len o a b = (mode : EdgeMode) → PassPart (f mode) src old new start stride len o a b
