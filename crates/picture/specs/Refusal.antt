-- Refusals: the checks in number order, and the conditions that several entries share.
use Rattle.std.specs.Prelude.{Bool, not, cond, ◌||◌, List, [], ◌∷◌, ℕ, ltb, eqb, Result, Ok, Err}
use Rattle.picture.specs.Planes.{bytes_of}
use Rattle.picture.specs.Sizes.{max_side}
use Rattle.picture.specs.declared.checks.Refusal.{Refusal}
use Rattle.picture.specs.declared.checks.Refusal.TheVariants.{WrongSides, WrongLength, TooShort, WrongTaps, WrongWeight, TooDeep, NotFinite, WrongColour, WrongEdge, BrokenPlate, OffGrid, NoPicture, NoRoom, WrongSum, NoPam, Exceeds, ListFull, WrongList, WrongRecipe, WrongBox, TooDeepToShare, Outside}

-- the refusals by their numbers
unfoldable pub number : Refusal → ℕ
number WrongSides = 1
number WrongLength = 2
number TooShort = 3
number WrongTaps = 4
number WrongWeight = 5
number TooDeep = 6
number NotFinite = 7
number WrongColour = 8
number WrongEdge = 9
number BrokenPlate = 10
number OffGrid = 11
number NoPicture = 12
number NoRoom = 13
number WrongSum = 14
number NoPam = 15
number Exceeds = 16
number ListFull = 17
number WrongList = 18
number WrongRecipe = 19
number WrongBox = 20
number TooDeepToShare = 21
number Outside = 22

-- the number of an answer: its refusal's, and 0 where there is none
unfoldable pub number_of : {A : Type 0} → Result A Refusal → ℕ
number_of (Ok a) = 0
number_of (Err r) = number r

-- a check by itself: its refusal, or nothing
abbrev pub refused_if : Bool → Refusal → Result Unit Refusal
refused_if refuses r = cond refuses (Err r) (Ok tt)

-- one check of an entry: its number, and whether it refuses
pub record Check : Type 0 where
  pub number : ℕ
  pub refuses : Bool

abbrev pub check : ℕ → Bool → Check
check k b = record { number = k; refuses = b }

-- the number of the first check that refuses; what the later ones answer where none does
unfoldable pub first_else : List Check → ℕ → ℕ
first_else [] later = later
first_else (k ∷ ks) later = cond k.refuses k.number (first_else ks later)

-- the number of the first check that refuses; 0 where none does
unfoldable pub first_of : List Check → ℕ
first_of checks = first_else checks 0

-- a count that is 0 or above the most there may be
unfoldable pub zero_or_above : ℕ → ℕ → Bool
zero_or_above most count = eqb count 0 || ltb most count

-- sides of which one is 0 or above the largest there may be
abbrev pub sides_outside : ℕ → ℕ → ℕ → Bool
sides_outside most w h = zero_or_above most w || zero_or_above most h

-- 1: w or h is 0 or above the largest side
unfoldable pub wrong_sides : ℕ → ℕ → Bool
wrong_sides w h = sides_outside max_side w h

-- 2: the picture is not exactly 4wh bytes
unfoldable pub wrong_length : ℕ → ℕ → ℕ → Bool
wrong_length len w h = not (eqb len (bytes_of w h))

-- 3: a work buffer is too short
unfoldable pub too_short : ℕ → ℕ → ℕ → Bool
too_short len w h = ltb len (bytes_of w h)

-- the most taps of a kernel
unfoldable pub max_taps : ℕ
max_taps = 33

-- 4: the tap count is 0 or above the most taps
unfoldable pub wrong_taps : ℕ → Bool
wrong_taps taps = zero_or_above max_taps taps

-- the most decimations
unfoldable pub max_decimations : ℕ
max_decimations = 14

-- 6: n is above the most decimations
unfoldable pub too_deep : ℕ → Bool
too_deep n = ltb max_decimations n

-- 9: the edge number is not 0, 1, 2 or 3
unfoldable pub wrong_edge : ℕ → Bool
wrong_edge edge = ltb 3 edge

-- checks 1 and 2, which every entry on a picture begins with
abbrev pub picture_checks : ℕ → ℕ → ℕ → List Check
picture_checks len w h = check 1 (wrong_sides w h) ∷ check 2 (wrong_length len w h) ∷ []
