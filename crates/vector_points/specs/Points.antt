-- What a list of points holds, before a call and after it.
use Rattle.std.specs.Prelude.{List, [], ◌∷◌, map, ℕ, ◌+◌, ◌*◌, get_or}
use Rattle.picture.specs.Build.{build}
use Rattle.vector_buffers.specs.Buffers.{numbers_from}

-- point i of a list of numbers: its numbers 2i and 2i + 1
abbrev pub point_in : List ℕ → ℕ → List ℕ
point_in numbers i = get_or numbers (i * 2) 0 ∷ get_or numbers (i * 2 + 1) 0 ∷ []

-- numbers of a vector from a place on, as 1024 points
abbrev pub stored_points : List ℕ → ℕ → ℕ → List (List ℕ)
stored_points v at n = map (point_in (numbers_from v at n)) (build 1024 (λ i. i))
