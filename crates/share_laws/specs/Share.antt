-- The share: the exact whole-number weight of an input in an output, over 2^(10n+32).
use Rattle.std.specs.Prelude.{cond, List, ℕ, zero, suc, ◌+◌, ◌*◌, ◌/◌, ◌%◌, ◌^◌, eqb}
use Rattle.picture.specs.Planes.{Line, Plane}
use Rattle.picture.specs.Sizes.{half}
use Rattle.picture.specs.declared.EdgeMode.{EdgeMode}
use Rattle.passes.specs.Passes.{Pass}
use Rattle.exact_blur.specs.Exact.{exact_halve, exact_double, exact_convolve, exact_blur}

-- a line that is 1 at i and 0 elsewhere
abbrev pub unit : ℕ → Line
unit i x = cond (eqb x i) 1 0

-- a plane that is 1 at i, j and 0 elsewhere
abbrev pub impulse : ℕ → ℕ → Plane
impulse i j x y = unit i x * unit j y

-- the share of input ix, iy in output ox, oy: what the exact blur makes there of a picture that is 1 at the input alone
unfoldable pub share : EdgeMode → List ℕ → ℕ → ℕ → ℕ → ℕ → ℕ → ℕ → ℕ → ℕ
share mode numerators n w h ox oy ix iy = exact_blur mode numerators n w h (impulse ix iy) ox oy

-- the same of places: place y·w + x is pixel x, y
abbrev pub share_at : EdgeMode → List ℕ → ℕ → ℕ → ℕ → ℕ → ℕ → ℕ
share_at mode numerators n w h out place = share mode numerators n w h (out % w) (out / w) (place % w) (place / w)

-- the blur's scheme along one line
unfoldable pub line_blur : Pass → Pass → Pass → ℕ → ℕ → Line → Line
line_blur H D C zero s l = C s l
line_blur H D C (suc n) s l = D (half s) (line_blur H D C n (half s) (H s l))

-- the exact blur along one line, over 2^(5n+16)
abbrev pub exact_line : EdgeMode → List ℕ → ℕ → ℕ → Line → Line
exact_line mode numerators n s l = line_blur (exact_halve mode) (exact_double mode) (exact_convolve mode numerators) n s l

abbrev pub axis_scale : ℕ → ℕ
axis_scale n = 2 ^ (5 * n + 16)

-- the share of input i in output o along one axis of s pixels
unfoldable pub axis_share : EdgeMode → List ℕ → ℕ → ℕ → ℕ → ℕ → ℕ
axis_share mode numerators n s o i = exact_line mode numerators n s (unit i) o
