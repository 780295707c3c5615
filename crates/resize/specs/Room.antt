-- What lines need: lengths that are exact, and sides that the arithmetic has room for; and what is left once a part of each is made.
use Rattle.std.specs.Prelude.{◌≡◌, List, ℕ, ◌+◌, ◌*◌, ◌≤◌, ◌<◌, length, get_or}
use Rattle.picture.specs.Sizes.{side_room}
use Rattle.blend.specs.declared.Taps.{Taps}
use Rattle.blend.specs.Tapped.{Fit}
use Rattle.resize.specs.declared.Resize.{Resize}
use Rattle.resize.specs.Resize.{Makes}

-- lines of len elements are all of src, and as many of out elements all of dst
pub record ResizeLines (kind : Resize) (src dst : List ℕ) (lines len out stride : ℕ) : Type 0 where
  pub some : 0 < lines
  pub stride_low : 0 < stride
  pub len_low : 0 < len
  pub len_high : len ≤ side_room
  pub makes : Makes kind len out
  pub src_length : length src ≡ lines * (len * stride)
  pub dst_length : length dst ≡ lines * (out * stride)

-- lines of len elements are all of src, as many of out elements all of dst, and taps that fit the former make an output of the latter from byte `at` on
pub record EndsRoom (src dst : List ℕ) (lines len out stride : ℕ) (t : Taps) (at : ℕ) : Type 0 where
  pub some : 0 < lines
  pub fit : Fit t len stride
  pub src_length : length src ≡ lines * (len * stride)
  pub dst_length : length dst ≡ lines * (out * stride)
  pub inside : at + stride ≤ out * stride

-- of lines of n bytes, byte r of line y of the first `lines` is g y r for each r from a up to b; and no byte of any line before a has changed
pub record Parts (old new : List ℕ) (lines n a b : ℕ) (g : ℕ → ℕ → ℕ) : Type 0 where
  pub size : length new ≡ length old
  pub made : (y r : ℕ) → y < lines → a ≤ r → r < b → get_or new (y * n + r) 0 ≡ g y r
  pub before : (y r : ℕ) → r < a → get_or new (y * n + r) 0 ≡ get_or old (y * n + r) 0
