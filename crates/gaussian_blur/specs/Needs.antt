-- What a blur that is accepted needs.
use Rattle.std.specs.Prelude.{◌≡◌, List, ℕ, ◌≤◌, Float, length}
use Rattle.picture.specs.Planes.{bytes_of}
use Rattle.picture.specs.Sizes.{Pictured}
use Rattle.passes.specs.Kernel.{Kernel}

-- a whole picture, or a level that is one, a scratch of exactly its size, and a kernel
pub record BlurReady (w h : ℕ) (picture scratch : List ℕ) (weights : List Float) : Type 0 where
  pub pictured : Pictured w h picture
  pub scratch_is : length scratch ≡ bytes_of w h
  pub kernel : Kernel weights

-- the same, with a scratch that may be longer
pub record BlurAccepted (w h : ℕ) (picture scratch : List ℕ) (weights : List Float) : Type 0 where
  pub pictured : Pictured w h picture
  pub room : bytes_of w h ≤ length scratch
  pub kernel : Kernel weights
