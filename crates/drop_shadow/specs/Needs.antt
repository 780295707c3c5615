-- What a shadow that is accepted needs.
use Rattle.std.specs.Prelude.{◌≡◌, false, List, ℕ, ◌*◌, ◌≤◌, Float, length}
use Rattle.picture.specs.Sizes.{FullSized, full_bytes, Pictured}
use Rattle.picture.specs.declared.FullSize.{FullSize}
use Rattle.passes.specs.Kernel.{Kernel}
use Rattle.composite.specs.Shadow.{InUnit}
use Rattle.shift.specs.Outcome.{wrong_offsets}
use Rattle.drop_shadow.specs.Shadowed.{colour_of}
use Rattle.drop_shadow.specs.declared.Recipe.{Recipe}

-- a kernel that checks 4 and 5 let through, and a recipe that 7 and 8 do
pub record Given (weights : List Float) (recipe : Recipe) : Type 0 where
  pub kernel : Kernel weights
  pub offsets : wrong_offsets recipe.dx recipe.dy ≡ false
  pub colour : InUnit (colour_of recipe)

-- a plane of single bytes, and a scratch for it, of exactly this size
pub record ShadowReady (size : FullSize) (scratch plane : List ℕ) (weights : List Float) (recipe : Recipe) : Type 0 where
  pub sized : FullSized size
  pub plane_is : length plane ≡ size.w * size.h
  pub scratch_is : length scratch ≡ size.w * size.h
  pub given : Given weights recipe

-- a picture of exactly this size, and work buffers that may be longer
pub record ShadowAccepted (size : FullSize) (picture scratch copy : List ℕ) (weights : List Float) (recipe : Recipe) : Type 0 where
  pub pictured : Pictured size.w size.h picture
  pub scratch_room : full_bytes size ≤ length scratch
  pub copy_room : full_bytes size ≤ length copy
  pub given : Given weights recipe
