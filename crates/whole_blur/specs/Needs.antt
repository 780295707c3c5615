-- What a whole-number blur that is accepted needs.
use Rattle.std.specs.Prelude.{◌≡◌, List, ℕ, ◌≤◌, length}
use Rattle.picture.specs.Planes.{bytes_of}
use Rattle.picture.specs.Sizes.{Pictured}
use Rattle.grid_sums.specs.Room.{Numerators}

-- a whole picture, or a level that is one, a scratch of exactly its size, and a kernel
pub record WholeReady (w h : ℕ) (picture scratch ms : List ℕ) : Type 0 where
  pub pictured : Pictured w h picture
  pub scratch_is : length scratch ≡ bytes_of w h
  pub kernel : Numerators ms

-- the same, with a scratch that may be longer
pub record WholeAccepted (w h : ℕ) (picture scratch ms : List ℕ) : Type 0 where
  pub pictured : Pictured w h picture
  pub room : bytes_of w h ≤ length scratch
  pub kernel : Numerators ms
