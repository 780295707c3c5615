-- The numbers of a vector as pairs of words.
use Rattle.std.specs.Prelude.{List, [], ◌∷◌, map, ℕ, ◌+◌, ◌*◌, get_or}
use Rattle.picture.specs.Build.{build}
use Rattle.vector_values.specs.Values.{word_of}
use Rattle.vector_buffers.specs.Buffers.{numbers_from}

-- two numbers as words
abbrev pub pair_of : List ℕ → List ℕ
pair_of p = word_of (get_or p 0 0) ∷ word_of (get_or p 1 0) ∷ []

-- pair i of a list of numbers: its words 2i and 2i + 1
abbrev pub pair_in : List ℕ → ℕ → List ℕ
pair_in numbers i = word_of (get_or numbers (i * 2) 0) ∷ word_of (get_or numbers (i * 2 + 1) 0) ∷ []

-- numbers of a vector from a place on, as 1024 pairs
abbrev pub pairs_from : List ℕ → ℕ → ℕ → List (List ℕ)
pairs_from v at n = map (pair_in (numbers_from v at n)) (build 1024 (λ i. i))
