-- What a conversion asks of its picture.
use Rattle.std.specs.Prelude.{◌≡◌, Bool, true, false, List, ℕ, ◌+◌, ◌*◌, ◌≤◌, length}
use Rattle.picture.specs.Sizes.{Pictured}
use Rattle.pixels.specs.Channels.{exceeds_at}
use Rattle.grading.specs.Premultiplied.{none, scanned}

-- a whole picture no channel of which exceeds its alpha
pub record Passing (w h : ℕ) (picture : List ℕ) : Type 0 where
  pub whole : Pictured w h picture
  pub scan : scanned picture w h ≡ none

-- bytes that go outward have no pixel that fails the check
abbrev pub Fit : Bool → List ℕ → Type 0
Fit out bytes = out ≡ true → (i : ℕ) → 4 * i + 4 ≤ length bytes → exceeds_at bytes i ≡ false
