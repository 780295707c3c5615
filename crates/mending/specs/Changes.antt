-- What mending makes of a picture, and the list of what it changes.
use Rattle.std.specs.Prelude.{cond, List, [], ◌∷◌, ◌++◌, ℕ, zero, suc, min, length, drop}
use Rattle.picture.specs.Planes.{chan, painted}
use Rattle.picture.specs.declared.Pixel.{Pixel}
use Rattle.pixels.specs.Pixels.{pixel_at, packed}
use Rattle.pixels.specs.Channels.{exceeds_at}

-- the picture with each r, g or b above its alpha lowered to that alpha; no other byte changes, and alpha is never above itself
unfoldable pub mended : ℕ → ℕ → List ℕ → List ℕ
mended w h bytes = painted w h (λ c x y. min (chan bytes w c x y) (chan bytes w 3 x y))

-- the same of one pixel
abbrev pub lowered : Pixel → Pixel
lowered p = record { r = min p.r p.a; g = min p.g p.a; b = min p.b p.a; a = p.a }

-- an entry of the list: the place, and the old pixel in one number
abbrev pub change : ℕ → Pixel → List ℕ
change place old = place ∷ packed old ∷ []

-- one entry for each of the places below n whose pixel fails the check, in scan order
unfoldable pub changes_below : List ℕ → ℕ → List (List ℕ)
changes_below bytes zero = []
changes_below bytes (suc n) = changes_below bytes n ++ cond (exceeds_at bytes n) (change n (pixel_at bytes n) ∷ []) []

-- a lent list whose first entries are new, and of which the rest is unchanged
unfoldable pub laid_entries : List (List ℕ) → List (List ℕ) → List (List ℕ)
laid_entries new old = new ++ drop (length new) old
