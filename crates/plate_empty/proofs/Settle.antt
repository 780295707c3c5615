-- Laws of what starting answers in each case of its checks.
use mathlib.Core.Path.{◌≡◌, refl}
use mathlib.Core.Bool.{true, false}
use mathlib.Core.List.{List}
use Prim.Native.Nat.{ℕ}
use native.Mathlib.Omega.{arith}
use lib.Dec.{ltb}
use lib.ListN.{length}
use borrow.Author.Tests.{not-false}
use Rattle.picture.specs.Answer.{answered, settled}
use Rattle.picture.specs.Planes.{laid}
use Rattle.picture.specs.Refusal.{first_else, first_of}
use Rattle.picture.proofs.Conditions.{each_passes}
use Rattle.picture.proofs.Settled.{read}
use Rattle.plate_numbers.specs.Numbers.{known}
use Rattle.plate_empty.specs.Outcome.{Grown, grown, empty_plate, start_checks, start_outcome}

module _ (buffer : List ℕ) (v : ℕ) where
  pub unknown : known v ≡ false → answered 10 (grown buffer 0) ≡ start_outcome buffer v
  unfolding start_outcome first_of first_else settled
  unknown k = rw k

  pub too_small : known v ≡ true → ltb (length buffer) 4 ≡ true → answered 13 (grown buffer 0) ≡ start_outcome buffer v
  unfolding start_outcome first_of first_else settled
  too_small k r = rw (k, r)

  pub started : known v ≡ true → ltb (length buffer) 4 ≡ false → answered 0 (grown (laid (empty_plate v) buffer) 4) ≡ start_outcome buffer v
  unfolding start_outcome first_of first_else settled
  started k r = rw (k, r)

  -- a start that answers 0 named a version there is, and leaves its header
  pub start_accepted : (left : Grown) → answered 0 left ≡ start_outcome buffer v → (known v ≡ true) × (left ≡ grown (laid (empty_plate v) buffer) 4)
  unfolding start_outcome
  start_accepted left e =
      let t = read (first_of (start_checks (length buffer) v)) (grown buffer 0) _ 0 left e in
      let passes = (each_passes (start_checks (length buffer) v) (omega arith, (omega arith, tt))).0 t.number in
      (not-false (known v) passes.0, t.finished refl)
