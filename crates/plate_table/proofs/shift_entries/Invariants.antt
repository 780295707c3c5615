-- The first i entries are written anew, and what comes after them is as it was.
use mathlib.Core.Path.{◌≡◌}
use Rattle.plate_numbers.specs.Numbers.{version, entry_size}
use Rattle.plate_format.specs.Format.{entry_of}
use Rattle.plate_written.specs.Written.{table_of}
use Rattle.plate_table.specs.Table.{further}
use Rattle.plate_table.specs.Steps.{laid_at}
use Rattle.plate_table.proofs.shift_entries.Given as goal

abbrev pub invariant-loop-i : goal.invariant-loop-i
invariant-loop-i l = l.bytes ≡ laid_at 4 (table_of (version l.initial.bytes) (λ k. further (entry_size (version l.initial.bytes)) (entry_of l.initial.bytes k)) l.i) l.initial.bytes
