-- What a pass over lines asks of them.
use Rattle.std.specs.Prelude.{◌≡◌, List, ℕ, ◌*◌, ◌≤◌, ◌<◌, length}
use Rattle.picture.specs.Sizes.{side_room}

-- lines of len elements are all of src, and as many of out elements all of dst
pub record Lines (src dst : List ℕ) (lines len out stride : ℕ) : Type 0 where
  pub some : 0 < lines
  pub len_low : 0 < len
  pub len_high : len ≤ side_room
  pub stride_low : 0 < stride
  pub src_size : length src ≡ lines * (len * stride)
  pub dst_size : length dst ≡ lines * (out * stride)
