-- Numbers of a vector that are below a bound.
use Rattle.std.specs.Prelude.{Bool, ◌&&◌, List, ℕ}
use Rattle.vector_parts.specs.declared.parts.Part.{Part}
use Rattle.vector_values.specs.Values.{all_under}
use Rattle.vector_buffers.specs.Buffers.{numbers_from}

-- n numbers from a place on are below a bound
abbrev pub range_under : List ℕ → ℕ → ℕ → ℕ → Bool
range_under v at n bound = all_under (numbers_from v at n) bound

-- those of a list are, before the call and after it
unfoldable pub part_under : List ℕ → Part → ℕ → Bool
part_under v p bound = range_under v p.before p.count bound && range_under v p.after p.count bound
