-- Laws of what adding answers in each case of its checks.
use mathlib.Core.Path.{◌≡◌, refl}
use mathlib.Core.Bool.{Bool, true, false}
use mathlib.Core.List.{List}
use Prim.Native.Nat.{ℕ}
use native.Mathlib.Omega.{arith}
use lib.ListN.{length}
use Rattle.picture.specs.Answer.{answered, settled}
use Rattle.picture.specs.Planes.{laid}
use Rattle.picture.specs.Refusal.{number, first_else, first_of, wrong_sides, wrong_length, picture_checks}
use Rattle.picture.specs.declared.checks.Refusal.{Refusal}
use Rattle.picture.proofs.Conditions.{each_passes, right_length}
use Rattle.picture.proofs.Settled.{read}
use Rattle.picture.proofs.Refused.{number_some}
use Rattle.plate.specs.Lookup.{Beside}
use Rattle.plate_room.specs.Room.{length_after, no_room, in_use, no_plate}
use Rattle.plate_room.proofs.Room.{in_plate}
use Rattle.plate_empty.specs.Outcome.{Grown, grown}
use Rattle.plate_write.specs.Added.{added}
use Rattle.plate_write.specs.Outcome.{add_checks, add_outcome}
use Rattle.plate_write.specs.Steps.{Adding}

module _ (buffer : List ℕ) (used : ℕ) (picture : List ℕ) (w h : ℕ) (label : Beside) where
  pub no_plate_lem : no_plate buffer used label.unit ≡ true → answered 10 (grown buffer 0) ≡ add_outcome buffer used picture w h label
  unfolding add_outcome first_of first_else settled
  no_plate_lem p = rw p

  module _ (p : no_plate buffer used label.unit ≡ false) where
    -- a picture that checks 1 and 2 refuse
    pub wrong_picture : (r : Refusal) → number r ≡ first_of (picture_checks (length picture) w h) → answered (number r) (grown buffer 0) ≡ add_outcome buffer used picture w h label
    unfolding add_outcome first_of first_else settled
    wrong_picture r e = by (wrong_sides w h) refl (wrong_length (length picture) w h) refl
      where
        by : (a : Bool) → wrong_sides w h ≡ a → (b : Bool) → wrong_length (length picture) w h ≡ b → answered (number r) (grown buffer 0) ≡ add_outcome buffer used picture w h label
        by true s b l = let one : number r ≡ 1 = rw s at e in rw (one, p, s)
        by false s true l = let two : number r ≡ 2 = rw (s, l) at e in rw (two, p, s, l)
        by false s false l = let z : number r ≡ 0 = rw (s, l) at e in absurd (omega (arith, number_some r))

    module _ (s : wrong_sides w h ≡ false) (l : wrong_length (length picture) w h ≡ false) where
      pub no_room_lem : no_room (length buffer) (in_use buffer used) w h ≡ true → answered 13 (grown buffer 0) ≡ add_outcome buffer used picture w h label
      unfolding add_outcome first_of first_else settled
      no_room_lem r = rw (p, s, l, r)

      pub add_done : no_room (length buffer) (in_use buffer used) w h ≡ false →
          answered 0 (grown (laid (added (in_use buffer used) w h label picture) buffer) (length_after (in_use buffer used) w h)) ≡ add_outcome buffer used picture w h label
      unfolding add_outcome first_of first_else settled
      add_done r = rw (p, s, l, r)

-- a call that answers 0 passed every check, and leaves the plate with one picture more
pub record Accepted (buffer : List ℕ) (used : ℕ) (picture : List ℕ) (w h : ℕ) (label : Beside) (left : Grown) : Type 0 where
  pub adding : Adding buffer used w h label.unit picture
  pub is : left ≡ grown (laid (added (in_use buffer used) w h label picture) buffer) (length_after (in_use buffer used) w h)

pub add_accepted : (buffer : List ℕ) (used : ℕ) (picture : List ℕ) (w h : ℕ) (label : Beside) (left : Grown) → answered 0 left ≡ add_outcome buffer used picture w h label → Accepted buffer used picture w h label left
unfolding add_outcome
add_accepted buffer used picture w h label left e =
    let checks = add_checks buffer used (length picture) w h label.unit in
    let t = read (first_of checks) (grown buffer 0) _ 0 left e in
    let passes = (each_passes checks (omega arith, (omega arith, (omega arith, (omega arith, tt))))).0 t.number in
    let s = in_plate buffer used label.unit passes.0 in
    record {
      adding = record {
        inside = s.inside;
        plate = s.is_plate;
        named = s.named;
        sides = passes.1.0;
        exact = (right_length (length picture) w h).0 passes.1.1.0;
        room = passes.1.1.1.0;
      };
      is = t.finished refl;
    }
