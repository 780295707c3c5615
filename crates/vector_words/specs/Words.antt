-- What a buffer of words holds, before a call and after it.
use Rattle.std.specs.Prelude.{List, map, ℕ}
use Rattle.vector_values.specs.Values.{word_of}
use Rattle.vector_buffers.specs.Buffers.{numbers_from}

-- numbers of a vector from a place on, as 2048 words
abbrev pub words_from : List ℕ → ℕ → ℕ → List ℕ
words_from v at n = map word_of (numbers_from v at n)
