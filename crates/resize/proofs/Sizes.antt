-- How many elements a line becomes, and where the outputs lie whose samples are inside.
use Prim.Native.Nat.{ℕ, ◌+◌, ◌*◌, ◌≤◌, ◌<◌}
use native.Mathlib.Omega.{arith}
use Rattle.picture.specs.Sizes.{side_room}
use Rattle.resize.specs.declared.Resize.{Resize}
use Rattle.resize.specs.declared.Resize.TheVariants.{Halve, Double}
use Rattle.resize.specs.Resize.{Makes, inner_to}

-- the outputs inside lie between the first and the last, and reach it
pub record Outs (kind : Resize) (len out : ℕ) : Type 0 where
  pub some : 0 < out
  pub high : out ≤ 2 * side_room
  pub inner_low : 1 ≤ inner_to kind len
  pub inner_reaches : out ≤ inner_to kind len + 1
  pub inner_high : inner_to kind len ≤ out

pub outs : (kind : Resize) (len out : ℕ) → 0 < len → len ≤ side_room → Makes kind len out → Outs kind len out
outs Halve len out z l e =
    record { some = omega arith; high = omega arith; inner_low = omega arith; inner_reaches = omega arith; inner_high = omega arith }
outs Double len out z l e =
    record { some = omega arith; high = omega arith; inner_low = omega arith; inner_reaches = omega arith; inner_high = omega arith }
