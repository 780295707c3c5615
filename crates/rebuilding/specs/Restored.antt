-- What rebuilding makes of a mended picture and the list of its changes.
use Rattle.std.specs.Prelude.{Bool, true, ◌&&◌, List, [], ◌∷◌, ℕ, suc, ltb, leb, get_or}
use Rattle.pixels.specs.Pixels.{with_pixel}
use Rattle.counting.specs.Words.{unpacked}

-- an entry's place, and its old pixel in one number
abbrev pub change_place : List ℕ → ℕ
change_place entry = get_or entry 0 0

abbrev pub old_of : List ℕ → ℕ
old_of entry = get_or entry 1 0

-- each old pixel back in its place
unfoldable pub restored : List (List ℕ) → List ℕ → List ℕ
restored [] bytes = bytes
restored (e ∷ es) bytes = restored es (with_pixel bytes (change_place e) (unpacked (old_of e)))

-- the places are in strictly rising order from `next` on, and below the area
unfoldable pub rising : ℕ → ℕ → List (List ℕ) → Bool
rising next area [] = true
rising next area (e ∷ es) = leb next (change_place e) && (ltb (change_place e) area && rising (suc (change_place e)) area es)
