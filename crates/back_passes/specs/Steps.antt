-- The passes of the exact blur by their kind, as taps; and what each step backwards needs, so that no sum passes 32 bits.
use Rattle.std.specs.Prelude.{List, ℕ, ◌+◌, ◌*◌, ◌^◌, ◌≤◌, ◌<◌, length, get_or}
use Rattle.picture.specs.Planes.{Line}
use Rattle.picture.specs.Sizes.{side_room}
use Rattle.picture.specs.declared.EdgeMode.{EdgeMode}
use Rattle.edges.specs.Edges.{sample, farthest}
use Rattle.binary32.specs.Grid.{sum}
use Rattle.binary32.specs.Taps.{sum_to}
use Rattle.passes.specs.Passes.{Pass}
use Rattle.exact_blur.specs.Exact.{exact_halve, exact_double, exact_convolve}
use Rattle.back_passes.specs.Worth.{total}
use Rattle.back_passes.specs.declared.back.PassKind.{PassKind}
use Rattle.back_passes.specs.declared.back.PassKind.TheVariants.{Halve, Double, Convolve}

-- the first m taps from the coordinate c - d on, tap j in weight j
abbrev pub taps_to : EdgeMode → List ℕ → ℕ → Line → ℕ → ℕ → ℕ → ℕ
taps_to mode taps s l c d m = sum_to (λ j. sample mode s l (c + j) d * get_or taps j 0) m

-- all of them
unfoldable pub tap_sum : EdgeMode → List ℕ → ℕ → Line → ℕ → ℕ → ℕ
tap_sum mode taps s l c d = taps_to mode taps s l c d (length taps)

-- the exact pass of each kind
abbrev pub exact_pass : PassKind → EdgeMode → List ℕ → Pass
exact_pass Halve mode numerators = exact_halve mode
exact_pass Double mode numerators = exact_double mode
exact_pass Convolve mode numerators = exact_convolve mode numerators

-- the most that one output hands on of what it is worth
abbrev pub gain : PassKind → ℕ
gain Halve = 8
gain Double = 4
gain Convolve = 65536

-- a kernel that checks 4 and 14 let through, as far as it matters here
pub record LightKernel (numerators : List ℕ) : Type 0 where
  pub few : length numerators ≤ 33
  pub light : sum numerators ≤ 65536

-- a row with elements that the arithmetic has room for
pub record RowSized (row : List ℕ) : Type 0 where
  pub low : 0 < length row
  pub high : length row ≤ side_room

-- taps from c - d on, of an output that is worth v
pub record TapsReady (row : List ℕ) (c d v : ℕ) (taps : List ℕ) : Type 0 where
  pub sized : RowSized row
  pub far : c + length taps < farthest
  pub near : d < farthest
  pub room : total row + v * sum taps < 2 ^ 32

-- output x of a pass, worth v
pub record OutputReady (kind : PassKind) (row : List ℕ) (x v : ℕ) (numerators : List ℕ) : Type 0 where
  pub sized : RowSized row
  pub kernel : LightKernel numerators
  pub far : x < side_room
  pub room : total row + gain kind * v < 2 ^ 32

-- all outputs of a pass
pub record PassReady (kind : PassKind) (outputs row numerators : List ℕ) : Type 0 where
  pub sized : RowSized row
  pub kernel : LightKernel numerators
  pub far : length outputs ≤ side_room
  pub room : total row + gain kind * total outputs < 2 ^ 32
