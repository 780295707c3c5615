-- Where the lists of a vector lie.
use Rattle.std.specs.Prelude.{cond, ◌&&◌, List, ℕ, ◌+◌, ◌-◌, ◌≤◌, eqb, leb, ltb, length, get_or, Option, Some, None}
use Rattle.std.specs.Bool.{then_some}
use Rattle.std.specs.Option.{option_and_then}
use Rattle.vector_parts.specs.declared.parts.Part.{Part}

-- a count, at most 2048, and as many numbers, which the call does not change
unfoldable pub counted_at : List ℕ → ℕ → Option Part
counted_at v at =
    then_some (ltb at (length v) && (leb (get_or v at 0) 2048 && leb (get_or v at 0) (length v - (at + 1))))
    (record { count = get_or v at 0; before = at + 1; after = at + 1; end = at + 1 + get_or v at 0 })

-- after it 0, for numbers that stay; or 1, and as many numbers afterwards
unfoldable pub changed_of : List ℕ → Part → Option Part
changed_of v p =
    cond (ltb p.end (length v))
    (cond (eqb (get_or v p.end 0) 0)
    (Some (record { count = p.count; before = p.before; after = p.after; end = p.end + 1 }))
    (then_some (eqb (get_or v p.end 0) 1 && leb p.count (length v - (p.end + 1)))
    (record { count = p.count; before = p.before; after = p.end + 1; end = p.end + 1 + p.count })))
    None

-- the four lists, each where the one before it ends
abbrev pub weights_part : List ℕ → Option Part
weights_part v = counted_at v 29

abbrev pub next_part : List ℕ → Part → Option Part
next_part v p = option_and_then (changed_of v) (counted_at v p.end)

abbrev pub list_part : List ℕ → Option Part
list_part v = option_and_then (next_part v) (weights_part v)

abbrev pub bytes_part : List ℕ → Option Part
bytes_part v = option_and_then (next_part v) (list_part v)

abbrev pub other_part : List ℕ → Option Part
other_part v = option_and_then (next_part v) (bytes_part v)

-- a part's numbers are numbers of the vector, and fit a buffer
pub record PartWithin (v : List ℕ) (p : Part) : Type 0 where
  pub reached : p.before + p.count ≤ length v
  pub left : p.after + p.count ≤ length v
  pub few : p.count ≤ 2048
