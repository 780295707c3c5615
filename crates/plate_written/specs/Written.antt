-- A plate's bytes as they are written: its numbers, its table, its bodies. What Format reads, the other way round.
use Rattle.std.specs.Prelude.{cond, List, [], ◌∷◌, ◌++◌, ℕ, zero, suc, ◌/◌, ◌%◌}
use Rattle.plate_numbers.specs.Numbers.{labelled}
use Rattle.plate_format.specs.declared.Entry.{Entry}

-- little-endian: a number in two bytes, and one in four
unfoldable pub bytes16 : ℕ → List ℕ
bytes16 n = n % 256 ∷ n / 256 ∷ []

unfoldable pub bytes32 : ℕ → List ℕ
bytes32 n = bytes16 (n % 65536) ++ bytes16 (n / 65536)

-- two bytes version, two bytes count
unfoldable pub header_bytes : ℕ → ℕ → List ℕ
header_bytes v n = bytes16 v ++ bytes16 n

-- unit and sheet (2 bytes), which version 1 does not have
unfoldable pub label_bytes : ℕ → ℕ → ℕ → List ℕ
label_bytes v unit sheet = cond (labelled v) (bytes16 unit ++ bytes16 sheet) []

-- an entry: width, height (2 bytes), offset, length (4 bytes), unit and sheet
unfoldable pub entry_bytes : ℕ → Entry → List ℕ
entry_bytes v e =
    bytes16 e.width ++ (bytes16 e.height ++ (bytes32 e.offset ++ (bytes32 e.length ++ label_bytes v e.unit e.sheet)))

-- the table of n entries of this version
unfoldable pub table_of : ℕ → (ℕ → Entry) → ℕ → List ℕ
table_of v f zero = []
table_of v f (suc n) = table_of v f n ++ entry_bytes v (f n)

-- a plate: version and count, table, bodies
unfoldable pub plate_of : ℕ → ℕ → (ℕ → Entry) → List ℕ → List ℕ
plate_of v n f bodies = header_bytes v n ++ (table_of v f n ++ bodies)
