-- What C gets of an image file that was read or written.
use Rattle.std.specs.Prelude.{List, ℕ}
use Rattle.pam.specs.Import.{PictureRead}

-- a picture that was read, with its sides and its length behind three pointers; a file's answer is `file_left` as it stands
abbrev pub read_in : ℕ → ℕ → ℕ → List ℕ → PictureRead
read_in width height written picture = record { width = width; height = height; written = written; picture = picture }
