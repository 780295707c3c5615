-- Theorem of the earlier release's lookups: they meet a newer version with refusal 10 and show nothing.
use mathlib.Core.Path.{◌≡◌}
use mathlib.Core.List.{List}
use Prim.Native.Nat.{ℕ, ◌<◌}
use Rattle.picture.specs.Answer.{answered, settled}
use Rattle.picture.specs.Refusal.{first_else, first_of}
use Rattle.plate_numbers.specs.Numbers.{version}
use Rattle.plate_format.proofs.Earlier.{newer}
use Rattle.plate.specs.Lookup.{nothing, looked_up_to, beside, labelled_up_to}

pub earlier : (r : ℕ) (file : List ℕ) (index : ℕ) → r < version file → (looked_up_to r file index ≡ answered 10 nothing) × (labelled_up_to r file index ≡ answered 10 (beside 0 0))
unfolding looked_up_to labelled_up_to first_of first_else settled
earlier r file index l = (rw (newer r file l), rw (newer r file l))
