-- What the steps of an accepted call need.
use Rattle.std.specs.Prelude.{List, ℕ, ◌*◌, ◌≤◌, ◌<◌, length}
use Rattle.picture.specs.Sizes.{max_side, Sides}
use Rattle.back_passes.specs.Worth.{Blank}
use Rattle.back_passes.specs.Steps.{LightKernel}

-- output o along an axis of s pixels
pub record AxisAsked (s n : ℕ) (numerators : List ℕ) (o : ℕ) : Type 0 where
  pub inside : o < s
  pub high : s ≤ max_side
  pub shallow : n ≤ 3
  pub kernel : LightKernel numerators

-- a row of zeros with room for an axis
pub record RowReady (s : ℕ) (row : List ℕ) : Type 0 where
  pub room : s ≤ length row
  pub blank : Blank row

-- an output place of w by h pixels
pub record ShareAsked (w h n : ℕ) (numerators : List ℕ) (out : ℕ) : Type 0 where
  pub sides : Sides w h
  pub wide : w ≤ max_side
  pub tall : h ≤ max_side
  pub inside : out < w * h
  pub shallow : n ≤ 3
  pub kernel : LightKernel numerators
