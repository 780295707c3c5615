-- What levels need: lengths that are exact or suffice, and sides that the arithmetic has room for.
use Rattle.std.specs.Prelude.{◌≡◌, List, ℕ, ◌≤◌, length, take}
use Rattle.picture.specs.Sizes.{Sized}
use Rattle.picture.specs.declared.LevelSize.{LevelSize}
use Rattle.passes.specs.Forms.{form_bytes, Formed}
use Rattle.passes.specs.declared.Form.{Form}
use Rattle.resize.specs.declared.Resize.{Resize}
use Rattle.resize.specs.Resize.{Makes}
use Rattle.resize.specs.Room.{ResizeLines}

-- lines, the first bytes of the picture, become lines, the first of scratch; and both buffers have room for either
pub record RowsRoom (kind : Resize) (picture scratch : List ℕ) (before between lines w v stride : ℕ) : Type 0 where
  pub lined : ResizeLines kind (take before picture) (take between scratch) lines w v stride
  pub picture_before : before ≤ length picture
  pub picture_between : between ≤ length picture
  pub scratch_before : before ≤ length scratch
  pub scratch_between : between ≤ length scratch

-- a level of size s becomes one of size t, and both buffers have room for either and for what is between the two passes
pub record Levels (f : Form) (kind : Resize) (picture scratch : List ℕ) (s t : LevelSize) : Type 0 where
  pub formed : Formed f
  pub s_sized : Sized s
  pub t_sized : Sized t
  pub wide : Makes kind s.w t.w
  pub high : Makes kind s.h t.h
  pub s_fits : form_bytes f s.w s.h ≤ length picture
  pub t_fits : form_bytes f t.w t.h ≤ length picture
  pub between_fits : form_bytes f t.w s.h ≤ length scratch
  pub s_turned : form_bytes f s.w s.h ≤ length scratch
  pub between_turned : form_bytes f t.w s.h ≤ length picture

-- a level, and two buffers that are just as long
pub record LevelBuffers (f : Form) (picture scratch : List ℕ) (s : LevelSize) : Type 0 where
  pub formed : Formed f
  pub sized : Sized s
  pub picture_length : length picture ≡ form_bytes f s.w s.h
  pub scratch_length : length scratch ≡ form_bytes f s.w s.h
