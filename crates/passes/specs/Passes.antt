-- The line passes: halving, doubling and convolution, along rows and along columns.
use Rattle.std.specs.Prelude.{ℕ, ◌+◌, ◌*◌, ◌/◌, ◌%◌, cond, List, eqb, Float, length, get_or}
use Rattle.std.specs.Float.{nan}
use Rattle.picture.specs.Planes.{Line, Plane}
use Rattle.picture.specs.declared.EdgeMode.{EdgeMode}
use Rattle.edges.specs.Edges.{sample}
use Rattle.binary32.specs.Round.{to_byte}
use Rattle.binary32.specs.Taps.{taps}

-- a pass: the size of the line it reads, the line, the line it makes
abbrev pub Pass : Type 0
Pass = ℕ → Line → Line

-- a pass along each row of a plane that is w wide
abbrev pub rows : Pass → ℕ → Plane → Plane
rows f w p = λ x y. f w (λ i. p i y) x

-- a pass along each column of a plane that is h high
abbrev pub cols : Pass → ℕ → Plane → Plane
cols f h p = λ x y. f h (λ j. p x j) y

-- halving, output x: (p0 + 3·p1 + 3·p2 + p3 + 4) / 8 at 2x-1, 2x, 2x+1, 2x+2
unfoldable pub halve : EdgeMode → Pass
halve mode s line x =
    (sample mode s line (2 * x) 1 + 3 * sample mode s line (2 * x) 0 + 3 * sample mode s line (2 * x + 1) 0 + sample mode s line (2 * x + 2) 0 + 4) / 8

-- doubling, output 2x: (p[x-1] + 3·p[x] + 2) / 4; output 2x+1: (3·p[x] + p[x+1] + 2) / 4
unfoldable pub double : EdgeMode → Pass
double mode s line y =
    cond (eqb (y % 2) 0)
    ((sample mode s line (y / 2) 1 + 3 * sample mode s line (y / 2) 0 + 2) / 4)
    ((3 * sample mode s line (y / 2) 0 + sample mode s line (y / 2 + 1) 0 + 2) / 4)

-- convolution: tap j of a kernel of length k samples x + j - floor(k/2); rounded once, halves upward, held at 255
unfoldable pub convolve : EdgeMode → List Float → Pass
convolve mode weights s line x =
    to_byte (taps (λ j. sample mode s line (x + j) (length weights / 2)) (λ j. get_or weights j nan) (length weights))
