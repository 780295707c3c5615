-- A kernel that can be convolved with.
use Rattle.std.specs.Prelude.{◌≡◌, false, List, Float, length}
use Rattle.picture.specs.Refusal.{wrong_taps}
use Rattle.binary32.specs.Ranges.{any_outside}

-- a kernel that checks 4 and 5 let through
pub record Kernel (weights : List Float) : Type 0 where
  pub counted : wrong_taps (length weights) ≡ false
  pub in_unit : any_outside weights ≡ false
