-- Refusal 7 of two offsets as a proposition beside its Bool.
use mathlib.Core.Path.{◌≡◌}
use mathlib.Core.Bool.{false}
use mathlib.Core.Logic.{◌↔◌}
use lib.Ieee.{Float}
use Rattle.picture.proofs.Conditions.{both_pass}
use Rattle.binary32.proofs.Conditions.{Number, is_number}
use Rattle.shift.specs.Outcome.{wrong_offsets}

pub right_offsets : (dx dy : Float) → (wrong_offsets dx dy ≡ false) ↔ (Number dx × Number dy)
unfolding wrong_offsets
right_offsets dx dy = both_pass (is_number dx) (is_number dy)
