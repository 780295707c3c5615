-- What writing a run of bytes into a lent buffer makes of it.
use Rattle.std.specs.Prelude.{cond, List, ℕ, ◌+◌, ◌-◌, ltb, length, get_or}
use Rattle.picture.specs.Build.{build}
use Rattle.picture.specs.Planes.{Line}

-- a list of bytes as a line, and the line that starts at byte a
abbrev pub line_of : List ℕ → Line
line_of bytes i = get_or bytes i 0

abbrev pub line_from : ℕ → List ℕ → Line
line_from a bytes x = line_of bytes (a + x)

-- byte i, where the n bytes from `to` on are those of a line, and the others are as they were
abbrev pub placed_at : ℕ → ℕ → Line → List ℕ → Line
placed_at n to line bytes i = cond (ltb i to) (line_of bytes i) (cond (ltb i (to + n)) (line (i - to)) (line_of bytes i))

-- the n bytes from `to` on are those of a line, and the others are as they were
unfoldable pub placed : ℕ → ℕ → Line → List ℕ → List ℕ
placed n to line bytes = build (length bytes) (placed_at n to line bytes)

-- the n bytes from `to` on are those that stood from `from` on, and the others are as they were
abbrev pub copied : ℕ → ℕ → ℕ → List ℕ → List ℕ
copied n from to bytes = placed n to (line_from from bytes) bytes
