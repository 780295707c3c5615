-- The steps of writing: bytes laid into a buffer, and what a table needs to be written anew.
use Rattle.std.specs.Prelude.{List, ◌++◌, ℕ, ◌+◌, ◌<◌, ◌≤◌, length, take, drop}
use Rattle.picture.specs.Planes.{laid}
use Rattle.plate_numbers.specs.Numbers.{version, count, entry_size}
use Rattle.plate_format.specs.Format.{entry_at, entry_of}
use Rattle.plate_format.specs.Needs.{Tabled}

-- a buffer whose bytes from `at` on are new, and of which the rest is unchanged
unfoldable pub laid_at : ℕ → List ℕ → List ℕ → List ℕ
laid_at at new old = take at old ++ laid new (drop at old)

-- a table with room for one entry more, and for its offsets s bytes further on
pub record Retabling (file : List ℕ) : Type 0 where
  pub tabled : Tabled file
  pub few : count file < 65535
  pub room : entry_at file (count file + 1) ≤ length file
  pub far : (i : ℕ) → i < count file → (entry_of file i).offset + entry_size (version file) < 4294967296
