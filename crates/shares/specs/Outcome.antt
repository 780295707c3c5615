-- What the entry `share` answers, for any input.
use Rattle.std.specs.Prelude.{◌||◌, Result, Ok, Err, List, ℕ}
use Rattle.picture.specs.Modes.{mode_of}
use Rattle.picture.specs.Refusal.{number, first_of}
use Rattle.picture.specs.declared.checks.Refusal.{Refusal}
use Rattle.picture.specs.Answer.{Answer, answered, settled}
use Rattle.share_laws.specs.Share.{share_at}
use Rattle.share_checks.specs.Checks.{place_outside, share_checks}

-- the number and the share of each case of the answer; a refused share is 0
abbrev pub share_answer : Result ℕ Refusal → Answer ℕ
share_answer (Err r) = answered (number r) 0
share_answer (Ok s) = answered 0 s

-- Share: 1, 4, 9, 21, 22 of either place, 14; the first refusal, or the share
unfoldable pub share_outcome : ℕ → ℕ → List ℕ → ℕ → ℕ → ℕ → ℕ → Answer ℕ
share_outcome w h ms n edge out place =
    settled (first_of (share_checks w h ms n edge (place_outside w h out || place_outside w h place))) 0 (share_at (mode_of edge) ms n w h out place)
