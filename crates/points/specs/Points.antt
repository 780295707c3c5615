-- The listing: the places whose share is not 0, in scan order, each once.
use Rattle.std.specs.Prelude.{cond, List, [], ◌∷◌, ◌++◌, ℕ, zero, suc, ◌*◌, ◌/◌, ◌%◌, eqb, get_or}

-- an entry of the list: the place and its share
abbrev pub point : ℕ → ℕ → List ℕ
point place share = place ∷ share ∷ []

-- one entry for each of the places below n whose share is not 0, in scan order
unfoldable pub points_below : (ℕ → ℕ) → ℕ → List (List ℕ)
points_below share zero = []
points_below share (suc n) = points_below share n ++ cond (eqb (share n) 0) [] (point n (share n) ∷ [])

-- the share of place k, from those of its column among xs and of its row among ys, w places a row
abbrev pub product_at : ℕ → List ℕ → List ℕ → ℕ → ℕ
product_at w xs ys k = get_or xs (k % w) 0 * get_or ys (k / w) 0
