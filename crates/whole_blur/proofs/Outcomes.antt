-- What no refusal says: the sizes and the kernel are as the work needs them.
use mathlib.Core.Path.{◌≡◌}
use mathlib.Core.Bool.{false}
use mathlib.Core.List.{List}
use Prim.Native.Nat.{ℕ}
use lib.Dec.{lit<}
use lib.ListN.{length}
use Rattle.picture.specs.Refusal.{first_of, wrong_sides}
use Rattle.picture.proofs.Conditions.{long_enough}
use Rattle.picture.proofs.Passed.{passed}
use Rattle.picture.proofs.Sizes.{whole}
use Rattle.whole_blur.specs.Needs.{WholeAccepted}
use Rattle.whole_blur.specs.Outcome.{whole_checks}

pub whole_passes : (p : List ℕ) (w h : ℕ) (s ms : List ℕ) (n edge : ℕ) →
    0 ≡ first_of (whole_checks (length p) w h (length s) ms n edge) → (wrong_sides w h ≡ false) × WholeAccepted w h p s ms
whole_passes p w h s ms n edge e =
    let sides = passed _ _ (lit< tt) e in
    let bytes = passed _ _ (lit< tt) sides.1 in
    let room = passed _ _ (lit< tt) bytes.1 in
    let count = passed _ _ (lit< tt) room.1 in
    let sum = passed _ _ (lit< tt) count.1 in
    (sides.0, record { pictured = whole p w h sides.0 bytes.0; room = (long_enough (length s) w h).0 room.0; kernel = record { counted = count.0; light = sum.0 } })
