-- What the steps of a shift in place make of a list of bytes.
use Rattle.std.specs.Prelude.{◌≡◌, Bool, cond, List, ℕ, ◌+◌, ◌-◌, ◌*◌, ◌/◌, ◌%◌, min, ltb, leb, Float, length}
use Rattle.picture.specs.Build.{build}
use Rattle.picture.specs.Buffers.{line_of, line_from, placed}
use Rattle.binary32.specs.Round.{round_offset}
use Rattle.binary32.specs.declared.Offset.{Offset}
use Rattle.shift.specs.declared.ByteOffset.{ByteOffset}
use Rattle.shift.specs.Shift.{moved, shifted}

-- a move along bytes, as one along the elements of a line
abbrev pub along : ByteOffset → Offset
along d = record { plus = d.plus; minus = d.minus }

-- all bytes moved by d, as one line
unfoldable pub slid : Offset → List ℕ → List ℕ
slid d bytes = build (length bytes) (moved d (length bytes) (line_of bytes))

-- the value v at x, but 0 at the n places from a on
abbrev pub blank : ℕ → ℕ → ℕ → ℕ → ℕ
blank a n x v = cond (ltb x a) v (cond (ltb x (a + n)) 0 v)

-- the n bytes from a on are 0
unfoldable pub zeroed : ℕ → ℕ → List ℕ → List ℕ
zeroed a n bytes = build (length bytes) (λ i. blank a n i (line_of bytes i))

-- the w bytes from b on are those from a on moved by d, and the rest is as it was
abbrev pub run_moved : Offset → ℕ → ℕ → ℕ → List ℕ → List ℕ
run_moved d w a b bytes = placed w b (moved d w (line_from a bytes)) bytes

-- which of n rows that move by dy is moved in turn k: the last first where they move down
abbrev pub turn_row : Offset → ℕ → ℕ → ℕ
turn_row dy n k = cond (ltb 0 dy.plus) (n - 1 - k) k

-- the n bytes from a on are 0 in each row of w bytes
unfoldable pub columns_zeroed : ℕ → ℕ → ℕ → List ℕ → List ℕ
columns_zeroed w a n bytes = build (length bytes) (λ i. blank a n (i % w) (line_of bytes i))

-- in each row of w bytes, byte x is kept where x - dx lies inside the row, else 0
unfoldable pub inside_kept : Offset → ℕ → List ℕ → List ℕ
inside_kept dx w bytes = build (length bytes) (λ i. moved dx w (λ _. line_of bytes i) (i % w))

-- a plane of w by h bytes, row by row from the top, moved by dx and dy
unfoldable pub plane_shifted : Offset → Offset → ℕ → ℕ → List ℕ → List ℕ
plane_shifted dx dy w h bytes = build (h * w) (λ i. shifted dx dy w h (λ x y. line_of bytes (y * w + x)) (i % w) (i / w))

-- an offset as it comes from rounding: one of its numbers is 0
abbrev pub OneWay : Offset → Type 0
OneWay d = min d.plus d.minus ≡ 0

-- no element of a line of s lies inside once it is moved by d
abbrev pub moved_out : ℕ → Offset → Bool
moved_out s d = leb s (d.plus + d.minus)

-- an offset in elements of so many bytes, counted in bytes
abbrev pub in_bytes : ℕ → Offset → Offset
in_bytes lanes d = record { plus = lanes * d.plus; minus = lanes * d.minus }

-- h rows of w elements of so many bytes, moved by the offsets rounded to whole elements and held to the sides
abbrev pub elements_shifted : ℕ → Float → Float → ℕ → ℕ → List ℕ → List ℕ
elements_shifted lanes dx dy w h bytes = plane_shifted (in_bytes lanes (round_offset w dx)) (round_offset h dy) (lanes * w) h bytes
