-- A header worked out, whole, and files that are and are not PAM files.
use mathlib.Core.Path.{◌≡◌, refl}
use mathlib.Core.Bool.{Bool, true, false}
use mathlib.Core.List.{List, [], ◌∷◌, ◌++◌}
use Prim.Native.Nat.{ℕ}
use Rattle.picture.specs.Build.{build}
use Rattle.picture.specs.Refusal.{zero_or_above, wrong_sides}
use Rattle.picture.specs.Sizes.{max_side}
use Rattle.pam_format.specs.Header.{bytes, digit_count, digit, decimal, before_width, before_height, after_height, header}
use Rattle.pam_format.specs.Format.{number_on, side_at, begins_with, has_sides, is_pam}

-- the header of 12 by 3 pixels
spelling : header 12 3 ≡ bytes "P7\nWIDTH 12\nHEIGHT 3\nDEPTH 4\nMAXVAL 255\nTUPLTYPE RGB_ALPHA\nENDHDR\n"
unfolding header bytes before_width before_height after_height decimal digit_count digit build
spelling = refl

-- sides of every length
decimals : (decimal 9 ++ decimal 10 ++ decimal 909 ++ decimal 4096 ++ decimal 16384) ≡ bytes "910909409616384"
unfolding bytes decimal digit_count digit build
decimals = refl

-- one pixel after a header: of 1 by 1; then with a leading zero, of 0 by 1, and with no byte of the pixel
abbrev file : List ℕ → List ℕ → List ℕ
file sides body = sides ++ bytes "\nDEPTH 4\nMAXVAL 255\nTUPLTYPE RGB_ALPHA\nENDHDR\n" ++ body

files : List Bool
files =
    is_pam (file (bytes "P7\nWIDTH 1\nHEIGHT 1") (1 ∷ 2 ∷ 3 ∷ 4 ∷ []))
    ∷ is_pam (file (bytes "P7\nWIDTH 01\nHEIGHT 1") (1 ∷ 2 ∷ 3 ∷ 4 ∷ []))
    ∷ is_pam (file (bytes "P7\nWIDTH 0\nHEIGHT 1") [])
    ∷ is_pam (file (bytes "P7\nWIDTH 1\nHEIGHT 1") []) ∷ []

told : files ≡ true ∷ false ∷ false ∷ false ∷ []
unfolding files header bytes before_width before_height after_height decimal digit_count digit build number_on side_at begins_with has_sides wrong_sides zero_or_above max_side
told = refl
