-- What the entries `to_planes` and `from_planes` answer and leave behind, for any input.
use Rattle.std.specs.Prelude.{List, [], ◌∷◌, ◌++◌, ℕ, length}
use Rattle.picture.specs.Planes.{laid}
use Rattle.picture.specs.Refusal.{Check, check, first_of, picture_checks, too_short}
use Rattle.picture.specs.Answer.{Answer, settled}
use Rattle.planes.specs.Planar.{planar, interleaved}

-- Converting: 1, 2, then 3; of the lengths of what is read and of what is written
abbrev pub convert_checks : ℕ → ℕ → ℕ → ℕ → List Check
convert_checks src w h dst = picture_checks src w h ++ (check 3 (too_short dst w h) ∷ [])

-- the first refusal; or the other form laid over the bytes lent for it, of which those past 4wh stay
unfoldable pub converted_outcome : (ℕ → ℕ → List ℕ → List ℕ) → List ℕ → ℕ → ℕ → List ℕ → Answer (List ℕ)
converted_outcome form src w h dst = settled (first_of (convert_checks (length src) w h (length dst))) dst (laid (form w h src) dst)

abbrev pub to_planes_outcome : List ℕ → ℕ → ℕ → List ℕ → Answer (List ℕ)
to_planes_outcome src w h dst = converted_outcome planar src w h dst

abbrev pub from_planes_outcome : List ℕ → ℕ → ℕ → List ℕ → Answer (List ℕ)
from_planes_outcome src w h dst = converted_outcome interleaved src w h dst
