-- What a picture needs to be added.
use Rattle.std.specs.Prelude.{◌≡◌, true, false, List, ℕ, ◌≤◌, length}
use Rattle.picture.specs.Planes.{bytes_of}
use Rattle.picture.specs.Refusal.{wrong_sides}
use Rattle.plate_numbers.specs.Numbers.{version, wrong_unit}
use Rattle.plate_format.specs.Format.{is_plate}
use Rattle.plate_room.specs.Room.{in_use, no_room}

-- what the checks leave of a call that is not refused
pub record Adding (buffer : List ℕ) (used w h unit : ℕ) (picture : List ℕ) : Type 0 where
  pub inside : used ≤ length buffer
  pub plate : is_plate (in_use buffer used) ≡ true
  pub named : wrong_unit (version (in_use buffer used)) unit ≡ false
  pub sides : wrong_sides w h ≡ false
  pub exact : length picture ≡ bytes_of w h
  pub room : no_room (length buffer) (in_use buffer used) w h ≡ false
