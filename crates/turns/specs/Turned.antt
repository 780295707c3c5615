-- Lines turned, and what turning asks of them.
use Rattle.std.specs.Prelude.{◌≡◌, List, ℕ, ◌+◌, ◌*◌, ◌/◌, ◌%◌, ◌<◌, length, get_or}
use Rattle.picture.specs.Build.{build}

-- byte j of element x of every line, one after the other: byte j % size of the element of line j / size
abbrev pub turned_byte : List ℕ → ℕ → ℕ → ℕ → ℕ → ℕ
turned_byte src len size x j = get_or src (x * size + j / size * (len * size) + j % size) 0

-- `lines` lines of len elements of `size` bytes: element x of every line, for each x in turn
unfoldable pub turned : List ℕ → ℕ → ℕ → ℕ → List ℕ
turned src lines len size = build (len * (lines * size)) (λ i. turned_byte src len size (i / (lines * size)) (i % (lines * size)))

-- lines that are all of src, and room for them turned
pub record Turnable (src dst : List ℕ) (lines len size : ℕ) : Type 0 where
  pub some : 0 < lines
  pub len_low : 0 < len
  pub size_low : 0 < size
  pub src_size : length src ≡ lines * (len * size)
  pub dst_size : length dst ≡ len * (lines * size)
