-- Numbers that are a vector: none is missing, left over or too large.
use Rattle.std.specs.Prelude.{Bool, false, ◌&&◌, List, ℕ, ◌^◌, eqb, leb, length, Option, Some, None}
use Rattle.vector_parts.specs.declared.parts.Part.{Part}
use Rattle.vector_parts.specs.Parts.{weights_part, bytes_part, other_part}
use Rattle.vector_buffers.specs.Bounds.{range_under, part_under}

-- numbers 0 to 18 and 22 to 24 have 32 bits; 15 and 16 are lengths of at most 2048
unfoldable pub head_fits : List ℕ → Bool
head_fits v = range_under v 0 19 (2 ^ 32) && (range_under v 15 2 2049 && range_under v 22 3 (2 ^ 32))

-- the lists are there and end where the numbers do; weights have 32 bits, bytes and other 8
abbrev pub parts_fit : List ℕ → Option Part → Option Part → Option Part → Bool
parts_fit v (Some weights) (Some bytes) (Some other) =
    eqb other.end (length v) && (part_under v weights (2 ^ 32) && (part_under v bytes 256 && part_under v other 256))
parts_fit v (Some weights) (Some bytes) None = false
parts_fit v (Some weights) None other = false
parts_fit v None bytes other = false

unfoldable pub lists_fit : List ℕ → Bool
lists_fit v = parts_fit v (weights_part v) (bytes_part v) (other_part v)

unfoldable pub whole_vector : List ℕ → Bool
whole_vector v = leb 29 (length v) && (head_fits v && lists_fit v)
