-- What the steps of a listing need: places that fit, and room for every entry.
use Rattle.std.specs.Prelude.{◌≡◌, List, ℕ, ◌*◌, ◌≤◌, ◌<◌, length, get_or}
use Rattle.picture.specs.Sizes.{side_room}
use Rattle.back_passes.specs.Worth.{NextNonzero}
use Rattle.points.specs.Points.{points_below, product_at}

-- from element r on a row holds nothing
pub record EndNonzero (row : List ℕ) (r : ℕ) : Type 0 where
  pub high : r ≤ length row
  pub blank : (k : ℕ) → r ≤ k → get_or row k 0 ≡ 0

-- the points of all rows: each place fits, and the list has room
pub record RowsAsked (xs : List ℕ) (w : ℕ) (ys : List ℕ) (room : ℕ) : Type 0 where
  pub low : 0 < w
  pub wide : w ≤ side_room
  pub within : length xs ≤ w
  pub tall : length ys ≤ side_room
  pub fits : length (points_below (product_at w xs ys) (length ys * w)) ≤ room

-- those of row y: the first k entries are listed, and there is something to list
pub record RowAsked (xs : List ℕ) (w : ℕ) (ys : List ℕ) (y from room k : ℕ) : Type 0 where
  pub rows : RowsAsked xs w ys room
  pub inside : y < length ys
  pub worth : get_or ys y 0 ≡ 0 → ⊥
  pub first : NextNonzero xs 0 from
  pub counted : k ≡ length (points_below (product_at w xs ys) (y * w))
