-- A reader of an earlier release: to it, bytes of a newer version are no plate.
use mathlib.Core.Path.{◌≡◌}
use mathlib.Core.Bool.{false}
use mathlib.Core.List.{List}
use Prim.Native.Nat.{ℕ, ◌<◌}
use native.Mathlib.Omega.{arith}
use borrow.Author.Tests.{lt-ltb, ne_eqb}
use Rattle.picture.specs.Refusal.{zero_or_above}
use Rattle.plate_numbers.specs.Numbers.{version, known_to}
use Rattle.plate_format.specs.Format.{is_plate_to}

pub newer : (r : ℕ) (file : List ℕ) → r < version file → is_plate_to r file ≡ false
unfolding is_plate_to known_to zero_or_above
newer r file l = rw (ne_eqb (version file) 0 (λ e. omega (arith, e)), lt-ltb r (version file) l)
