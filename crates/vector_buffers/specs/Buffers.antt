-- What the buffers of a call hold, before it and after it.
use Rattle.std.specs.Prelude.{◌≡◌, cond, List, map, ℕ, ◌+◌, ◌%◌, ◌≤◌, ltb, Float, get_or}
use Rattle.picture.specs.Build.{build}
use Rattle.vector_parts.specs.declared.parts.Part.{Part}
use Rattle.vector_values.specs.Values.{byte_of, float_of}

-- number i of a buffer that holds n numbers of a vector, which begin at a place, and then zeros
abbrev pub number_at : List ℕ → ℕ → ℕ → ℕ → ℕ
number_at v at n i = cond (ltb i n) (get_or v (at + i) 0) 0

-- such a buffer, of 2048 numbers
abbrev pub numbers_from : List ℕ → ℕ → ℕ → List ℕ
numbers_from v at n = build 2048 (number_at v at n)

-- its numbers as bytes
abbrev pub bytes_from : List ℕ → ℕ → ℕ → List ℕ
bytes_from v at n = map byte_of (numbers_from v at n)

-- the buffer of a part, as the call is lent it and as it leaves it
abbrev pub bytes_before : List ℕ → Part → List ℕ
bytes_before v p = bytes_from v p.before p.count

abbrev pub bytes_after : List ℕ → Part → List ℕ
bytes_after v p = bytes_from v p.after p.count

-- a part's numbers as bit patterns of binary32
abbrev pub floats_before : List ℕ → Part → List Float
floats_before v p = map float_of (numbers_from v p.before p.count)

-- byte i of a work buffer whose first bytes are cleared
abbrev pub work_byte : ℕ → ℕ → ℕ
work_byte zeros i = cond (ltb i zeros) 0 (i % 251 + 1)

abbrev pub work_of : ℕ → List ℕ
work_of zeros = build 2048 (work_byte zeros)

-- a work buffer of which exactly the first bytes are cleared, and the others are as they were filled
abbrev pub cleared_work : ℕ → List ℕ → Type 0
cleared_work zeros work = (zeros ≤ 2048) × (work ≡ work_of zeros)
