-- Sizes in full pixels and sizes in a level's pixels: separate kinds.
use Rattle.std.specs.Prelude.{◌≡◌, List, ℕ, zero, suc, ◌+◌, ◌/◌, ◌≤◌, length}
use Rattle.picture.specs.Planes.{bytes_of}
use Rattle.picture.specs.declared.FullSize.{FullSize}
use Rattle.picture.specs.declared.LevelSize.{LevelSize}

-- the largest side of a picture
unfoldable pub max_side : ℕ
max_side = 16384

-- the largest side that the arithmetic of a level has room for
unfoldable pub side_room : ℕ
side_room = 65536

-- the next level's side: half of it, upward
abbrev pub half : ℕ → ℕ
half s = (s + 1) / 2

-- level i of a side s, by i halvings
unfoldable pub level_side : ℕ → ℕ → ℕ
level_side zero s = s
level_side (suc i) s = level_side i (half s)

-- the sizes of a picture of w by h full pixels, and of its level 0
abbrev pub full_size : ℕ → ℕ → FullSize
full_size w h = record { w = w; h = h }

abbrev pub level_size : ℕ → ℕ → LevelSize
level_size w h = record { w = w; h = h }

-- a full size counted in the pixels of level 0
abbrev pub level_zero : FullSize → LevelSize
level_zero s = level_size s.w s.h

-- the size of the level below: each side halved, upward
abbrev pub half_level : LevelSize → LevelSize
half_level s = level_size (half s.w) (half s.h)

-- how many bytes a picture, or a level, of this size has
abbrev pub full_bytes : FullSize → ℕ
full_bytes s = bytes_of s.w s.h

abbrev pub level_bytes : LevelSize → ℕ
level_bytes s = bytes_of s.w s.h

-- sides with pixels that the arithmetic has room for
pub record Sides (w h : ℕ) : Type 0 where
  pub w_low : 1 ≤ w
  pub w_high : w ≤ side_room
  pub h_low : 1 ≤ h
  pub h_high : h ≤ side_room

-- the same of a size in full pixels, and of a level's
abbrev pub FullSized : FullSize → Type 0
FullSized s = Sides s.w s.h

abbrev pub Sized : LevelSize → Type 0
Sized s = Sides s.w s.h

-- a whole picture of w by h pixels: its sides have room, and it has exactly 4wh bytes
pub record Pictured (w h : ℕ) (bytes : List ℕ) : Type 0 where
  pub sized : Sides w h
  pub exact : length bytes ≡ bytes_of w h
