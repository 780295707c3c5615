-- What the exact blur along a line needs, worked out backwards, so that no sum passes 32 bits.
use Rattle.std.specs.Prelude.{◌≡◌, List, ℕ, ◌*◌, ◌^◌, ◌≤◌, ◌<◌, length}
use Rattle.picture.specs.Sizes.{side_room}
use Rattle.share_laws.specs.Share.{axis_scale}
use Rattle.back_passes.specs.Worth.{total, Blank}
use Rattle.back_passes.specs.Steps.{LightKernel}

-- all outputs of the blur along a line of s elements
pub record LineReady (outputs row : List ℕ) (s n : ℕ) (numerators : List ℕ) : Type 0 where
  pub low : 1 ≤ s
  pub high : s ≤ side_room
  pub outputs_is : length outputs ≡ s
  pub row_is : length row ≡ s
  pub blank : Blank row
  pub kernel : LightKernel numerators
  pub room : axis_scale n * total outputs < 2 ^ 32

-- one output of the blur, with at most 3 decimations
pub record AxisReady (work row : List ℕ) (s n : ℕ) (numerators : List ℕ) (o : ℕ) : Type 0 where
  pub inside : o < s
  pub high : s ≤ side_room
  pub shallow : n ≤ 3
  pub work_is : length work ≡ s
  pub row_is : length row ≡ s
  pub work_blank : Blank work
  pub row_blank : Blank row
  pub kernel : LightKernel numerators
