-- What reading a table needs.
use Rattle.std.specs.Prelude.{List, ℕ, ◌<◌, ◌≤◌, length}
use Rattle.plate_numbers.specs.Numbers.{count}
use Rattle.plate_format.specs.Format.{entry_at}

-- the table lies within the file, and its count is a number of two bytes
pub record Tabled (file : List ℕ) : Type 0 where
  pub few : count file < 65536
  pub inside : entry_at file (count file) ≤ length file
