-- Rows of numbers: what each element of a line is worth, and what a row makes of a line.
use Rattle.std.specs.Prelude.{◌≡◌, List, ℕ, ◌+◌, ◌*◌, ◌≤◌, ◌<◌, length, get_or}
use Rattle.picture.specs.Planes.{Line}
use Rattle.binary32.specs.Taps.{sum_to}

-- each element of a line times what it is worth, in all
unfoldable pub worth_of : List ℕ → Line → ℕ
worth_of row l = sum_to (λ i. get_or row i 0 * l i) (length row)

-- of a line of ones: all that a row holds
unfoldable pub total : List ℕ → ℕ
total row = worth_of row (λ _. 1)

-- a row makes more of every line than it did before, by f of the line
abbrev pub Gained : List ℕ → List ℕ → (Line → ℕ) → Type 0
Gained old new f = (l : Line) → worth_of new l ≡ worth_of old l + f l

-- a row makes of every line what the outputs make of the line that f makes of it
abbrev pub Carried : List ℕ → List ℕ → (Line → Line) → Type 0
Carried outputs row f = (l : Line) → worth_of row l ≡ worth_of outputs (f l)

-- a row of zeros
abbrev pub Blank : List ℕ → Type 0
Blank row = (i : ℕ) → get_or row i 0 ≡ 0

-- r is the first element from `from` on that is not 0, or the row's length where there is none
pub record NextNonzero (row : List ℕ) (from r : ℕ) : Type 0 where
  pub low : from ≤ r
  pub high : r ≤ length row
  pub blank : (k : ℕ) → from ≤ k → k < r → get_or row k 0 ≡ 0
  pub found : r < length row → get_or row r 0 ≡ 0 → ⊥
