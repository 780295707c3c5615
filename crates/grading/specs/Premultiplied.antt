-- The premultiplied check.
use Rattle.std.specs.Prelude.{Bool, true, false, cond, List, Option, Some, None, Result, Ok, Err, ℕ, zero, suc, ◌*◌, length}
use Rattle.picture.specs.Refusal.{number, first_of, picture_checks}
use Rattle.picture.specs.declared.checks.Refusal.{Refusal}
use Rattle.picture.specs.Answer.{Answer, answered, settled}
use Rattle.pixels.specs.Channels.{exceeds_at}
use Rattle.grading.specs.declared.premultiplied.Place.{Place}

-- whether there is a pixel of which a channel exceeds alpha, and the place of the first; the place is 0 where there is none
pub record Finding : Type 0 where
  pub found : Bool
  pub place : ℕ

abbrev pub none : Finding
none = record { found = false; place = 0 }

abbrev pub found_at : ℕ → Finding
found_at k = record { found = true; place = k }

-- what the scan answers
abbrev pub found : Option Place → Finding
found (Some p) = found_at p.at
found None = none

-- the number and the values of each case of the answer
abbrev pub finding : Result (Option Place) Refusal → Answer Finding
finding (Err r) = answered (number r) none
finding (Ok place) = answered 0 (found place)

-- the first of n places, counted from k, at which the test holds
unfoldable pub first_from : (ℕ → Bool) → ℕ → ℕ → Finding
first_from f k zero = none
first_from f k (suc n) = cond (f k) (found_at k) (first_from f (suc k) n)

-- rows downward, each left to right: the places y·w + x in their order
unfoldable pub scanned : List ℕ → ℕ → ℕ → Finding
scanned bytes w h = first_from (exceeds_at bytes) 0 (w * h)

-- Check: 1, 2; a refused place is 0
unfoldable pub checked : List ℕ → ℕ → ℕ → Answer Finding
checked bytes w h = settled (first_of (picture_checks (length bytes) w h)) none (scanned bytes w h)
