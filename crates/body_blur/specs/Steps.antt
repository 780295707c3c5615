-- One body of the job: what blurring it needs, and what it leaves.
use Rattle.std.specs.Prelude.{◌≡◌, false, List, ◌++◌, ℕ, ◌+◌, ◌<◌, ◌≤◌, length, take, drop}
use Rattle.picture.specs.Planes.{bytes_of, cleared}
use Rattle.picture.specs.Refusal.{wrong_sides}
use Rattle.plate_numbers.specs.Numbers.{count}
use Rattle.plate_format.specs.Format.{entry_of}
use Rattle.plate_format.specs.Needs.{Tabled}
use Rattle.body_blur.specs.Blur.{BodyBlur}

-- a file with other bytes in the place of the len bytes from start on
abbrev pub with_body : List ℕ → ℕ → ℕ → List ℕ → List ℕ
with_body file start len bytes = take start file ++ (bytes ++ drop len (drop start file))

-- the bytes of a picture of w by h pixels, and a scratch with room for them
pub record BodyFits (w h : ℕ) (part scratch : List ℕ) : Type 0 where
  pub sides : wrong_sides w h ≡ false
  pub exact : length part ≡ bytes_of w h
  pub room : bytes_of w h ≤ length scratch

-- body i starts here: it lies within the file, and the scratch has room for it
pub record BodyReady (file : List ℕ) (i start : ℕ) (scratch : List ℕ) : Type 0 where
  pub tabled : Tabled file
  pub there : i < count file
  pub sides : wrong_sides (entry_of file i).width (entry_of file i).height ≡ false
  pub long : (entry_of file i).length ≡ bytes_of (entry_of file i).width (entry_of file i).height
  pub inside : start + (entry_of file i).length ≤ length file
  pub room : (entry_of file i).length ≤ length scratch

-- where the next body starts, the body blurred where it lies, and its part of the scratch zero
pub record Blurred (blur : BodyBlur) (file : List ℕ) (i start : ℕ) (scratch : List ℕ) (next : ℕ) (file' scratch' : List ℕ) : Type 0 where
  pub follows : next ≡ start + (entry_of file i).length
  pub body : file' ≡
      with_body file start (entry_of file i).length
      (blur (entry_of file i).width (entry_of file i).height (take (entry_of file i).length (drop start file)))
  pub zeros : scratch' ≡ cleared (entry_of file i).length scratch
