-- A picture as four planes, and as bytes: r, g, b, a for each pixel, row by row from the top.
use Rattle.std.specs.Prelude.{List, ◌++◌, ℕ, ◌+◌, ◌*◌, ◌/◌, ◌%◌, length, get_or, drop, replicate}
use Rattle.picture.specs.Build.{build}

-- one channel along a line: the value at each index
abbrev pub Line : Type 0
Line = ℕ → ℕ

-- one channel of a picture: the value at x, y
abbrev pub Plane : Type 0
Plane = ℕ → ℕ → ℕ

-- how many bytes a picture of w by h pixels has: 4wh
abbrev pub bytes_of : ℕ → ℕ → ℕ
bytes_of w h = 4 * (w * h)

-- channel c of the picture that these bytes are, w pixels wide
unfoldable pub chan : List ℕ → ℕ → ℕ → Plane
chan bytes w c x y = get_or bytes (4 * (y * w + x) + c) 0

-- the bytes of a picture of w by h pixels whose channel c is the plane F c
unfoldable pub painted : ℕ → ℕ → (ℕ → Plane) → List ℕ
painted w h F = build (bytes_of w h) (λ i. F (i % 4) (i / 4 % w) (i / 4 / w))

-- a lent buffer whose first bytes are new, and of which the rest is unchanged
unfoldable pub laid : List ℕ → List ℕ → List ℕ
laid new old = new ++ drop (length new) old

-- a work buffer after a success: its first n bytes are zero and the rest is unchanged
unfoldable pub cleared : ℕ → List ℕ → List ℕ
cleared n work = laid (replicate n 0) work
