-- What a pass over lines makes of a list of bytes. A line is a start, a stride and a length: element i is the `stride` bytes
-- at start + i * stride, and its lane k is the byte k of them. A row is a line of pixels; all columns together are one line whose elements are rows.
use Rattle.std.specs.Prelude.{List, ℕ, ◌+◌, ◌*◌, ◌/◌, ◌%◌, get_or}
use Rattle.picture.specs.Build.{build}
use Rattle.picture.specs.Planes.{Line}
use Rattle.passes.specs.Passes.{Pass}

-- lane k of the line at start
abbrev pub lane : List ℕ → ℕ → ℕ → ℕ → Line
lane src start stride k i = get_or src (start + i * stride + k) 0

-- byte j of what a pass makes of the line at start
abbrev pub line_byte : Pass → List ℕ → ℕ → ℕ → ℕ → ℕ → ℕ
line_byte f src start len stride j = f len (lane src start stride (j % stride)) (j / stride)

-- byte i of what it makes of lines that lie one after the other: `out` elements of each
abbrev pub lines_byte : Pass → List ℕ → ℕ → ℕ → ℕ → ℕ → ℕ
lines_byte f src len out stride i = line_byte f src (i / (out * stride) * (len * stride)) len stride (i % (out * stride))

-- the bytes that a pass makes of `lines` lines of len elements
unfoldable pub passed : Pass → List ℕ → ℕ → ℕ → ℕ → ℕ → List ℕ
passed f src lines len out stride = build (lines * (out * stride)) (lines_byte f src len out stride)
