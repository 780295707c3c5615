-- Reading a plate back: the old pictures and then the new one, byte for byte.
use Rattle.std.specs.Prelude.{◌≡◌, true, List, ℕ, ◌+◌, ◌<◌, length, take, drop}
use Rattle.picture.specs.Answer.{Answer, answered}
use Rattle.picture.specs.Planes.{bytes_of}
use Rattle.plate_numbers.specs.Numbers.{version, count, entry_size}
use Rattle.plate_format.specs.Format.{is_plate}
use Rattle.plate.specs.Lookup.{Picture, looked_up, Beside, beside, labelled_up}
use Rattle.plate_room.specs.Room.{given}

-- what a lookup answers, s bytes further on
abbrev pub moved_on : ℕ → Answer Picture → Answer Picture
moved_on s a = answered a.number (record { width = a.left.width; height = a.left.height; offset = a.left.offset + s; length = a.left.length })

-- the bytes of picture i, as a lookup of the plate finds them
abbrev pub bytes_at : List ℕ → ℕ → List ℕ
bytes_at file i = take (looked_up file i).left.length (drop (looked_up file i).left.offset file)

-- the picture that comes after all old ones
abbrev pub last_added : List ℕ → ℕ → ℕ → Picture
last_added old w h = record { width = w; height = h; offset = length old + entry_size (version old); length = bytes_of w h }

-- `new` is a plate of the same version with one picture more; each old picture is found one table entry further on with the same bytes, unit and sheet, and after them the new one
pub record ReadsBack (old new : List ℕ) (w h : ℕ) (label : Beside) (picture : List ℕ) : Type 0 where
  pub plate : is_plate new ≡ true
  pub same_version : version new ≡ version old
  pub one_more : count new ≡ count old + 1
  pub old_found : (i : ℕ) → i < count old → looked_up new i ≡ moved_on (entry_size (version old)) (looked_up old i)
  pub old_bytes : (i : ℕ) → i < count old → bytes_at new i ≡ bytes_at old i
  pub new_found : looked_up new (count old) ≡ answered 0 (last_added old w h)
  pub new_bytes : bytes_at new (count old) ≡ picture
  pub old_labels : (i : ℕ) → i < count old → labelled_up new i ≡ labelled_up old i
  pub new_label : labelled_up new (count old) ≡ answered 0 (beside (given (version old) label.unit) (given (version old) label.sheet))
