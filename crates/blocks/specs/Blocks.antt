-- Blocks of a line: what each value of one is to be, and what has been made of what is wanted.
use Rattle.std.specs.Prelude.{◌≡◌, List, ℕ, ◌+◌, ◌/◌, ◌%◌, Float, get_or}
use Rattle.picture.specs.declared.EdgeMode.{EdgeMode}
use Rattle.edges.specs.Edges.{sample}
use Rattle.passes.specs.Written.{lane}
use Rattle.lanes.specs.Lanes.{widened}

-- value t of a block that has n lanes of each element, from lane `from` on: element e is what x + e - d reads
abbrev pub block_value : EdgeMode → List ℕ → ℕ → ℕ → ℕ → ℕ → ℕ → ℕ → ℕ → ℕ → Float
block_value mode src start len stride from n x d t = widened (sample mode len (lane src start stride (from + t % n)) (x + t / n) d)

-- new has what is wanted at each index of R, and still has it wherever old had it
pub record Made {A : Type 0} (none : A) (want : ℕ → A) (R : ℕ → Type 0) (old new : List A) : Type 0 where
  pub makes : (j : ℕ) → R j → get_or new j none ≡ want j
  pub keeps : (j : ℕ) → get_or old j none ≡ want j → get_or new j none ≡ want j
