-- What adding to a plate answers and leaves: the number, the buffer, and the length in use.
use Rattle.std.specs.Prelude.{List, [], ◌∷◌, ◌++◌, ℕ, length}
use Rattle.picture.specs.Answer.{Answer, answered, settled}
use Rattle.picture.specs.Planes.{laid}
use Rattle.picture.specs.Refusal.{Check, check, first_of, picture_checks}
use Rattle.plate.specs.Lookup.{Beside}
use Rattle.plate_room.specs.Room.{in_use, no_plate, length_after, no_room}
use Rattle.plate_empty.specs.Outcome.{Grown, grown}
use Rattle.plate_write.specs.Added.{added}

-- adding a picture: 10, then 1 and 2, then 13
abbrev pub add_checks : List ℕ → ℕ → ℕ → ℕ → ℕ → ℕ → List Check
add_checks buffer used len w h unit =
    check 10 (no_plate buffer used unit) ∷ (picture_checks len w h ++ (check 13 (no_room (length buffer) (in_use buffer used) w h) ∷ []))

-- the first refusal, or the plate with one picture more; the bytes past its end stay
unfoldable pub add_outcome : List ℕ → ℕ → List ℕ → ℕ → ℕ → Beside → Answer Grown
add_outcome buffer used picture w h label =
    settled
    (first_of (add_checks buffer used (length picture) w h label.unit))
    (grown buffer 0)
    (grown (laid (added (in_use buffer used) w h label picture) buffer) (length_after (in_use buffer used) w h))
