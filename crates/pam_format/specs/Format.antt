-- When some bytes are a PAM file, and its sides.
use Rattle.std.specs.Prelude.{◌≡◌, Bool, true, false, not, cond, ◌&&◌, List, [], ◌∷◌, ◌++◌, ℕ, ◌+◌, ◌-◌, ◌*◌, ltb, leb, eqb, length, drop}
use Rattle.picture.specs.Planes.{bytes_of}
use Rattle.picture.specs.Refusal.{wrong_sides}
use Rattle.pam_format.specs.Header.{digit_count, before_width, before_height, header}

-- a character that is a digit
abbrev pub is_digit : ℕ → Bool
is_digit b = leb 48 b && leb b 57

-- the number that the digits in front make, after those that made v; a number of five digits takes no more
unfoldable pub number_on : List ℕ → ℕ → ℕ
number_on [] v = v
number_on (b ∷ bs) v = cond (is_digit b && ltb v 10000) (number_on bs (10 * v + (b - 48))) v

-- the number at a place of a file; there may be leading zeros, which the comparison with the header finds
unfoldable pub side_at : List ℕ → ℕ → ℕ
side_at file at = number_on (drop at file) 0

-- the sides, where the header has them
abbrev pub width_in : List ℕ → ℕ
width_in file = side_at file (length before_width)

abbrev pub height_in : List ℕ → ℕ
height_in file = side_at file (length before_width + digit_count (width_in file) + length before_height)

-- some bytes begin with others
unfoldable pub begins_with : List ℕ → List ℕ → Bool
begins_with [] file = true
begins_with (b ∷ bs) [] = false
begins_with (b ∷ bs) (c ∷ cs) = eqb b c && begins_with bs cs

-- how long the file of a picture of w by h pixels is: its header, and 4wh bytes
abbrev pub file_length : ℕ → ℕ → ℕ
file_length w h = length (header w h) + bytes_of w h

-- a file of these sides: they are within refusal 1's limits, its length is theirs, and it begins with their header
unfoldable pub has_sides : List ℕ → ℕ → ℕ → Bool
has_sides file w h = not (wrong_sides w h) && (eqb (length file) (file_length w h) && begins_with (header w h) file)

-- a PAM file
abbrev pub is_pam : List ℕ → Bool
is_pam file = has_sides file (width_in file) (height_in file)

-- what a PAM file is, in a reader's words: our header of sides within refusal 1's limits, and 4wh bytes more
pub record Pam (file : List ℕ) (w h : ℕ) : Type 0 where
  pub sides : wrong_sides w h ≡ false
  pub body : List ℕ
  pub exact : length body ≡ bytes_of w h
  pub spelt : file ≡ header w h ++ body
