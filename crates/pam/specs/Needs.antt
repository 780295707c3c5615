-- What the checks of an export have shown.
use Rattle.std.specs.Prelude.{◌≡◌, false, List, ℕ, length}
use Rattle.picture.specs.Refusal.{wrong_sides, wrong_length}
use Rattle.grading.specs.Premultiplied.{Finding, scanned}

-- checks 1 and 2 let the picture through, and its scan came to this
pub record Passed (picture : List ℕ) (w h : ℕ) (f : Finding) : Type 0 where
  pub sides : wrong_sides w h ≡ false
  pub exact : wrong_length (length picture) w h ≡ false
  pub scan : scanned picture w h ≡ f
