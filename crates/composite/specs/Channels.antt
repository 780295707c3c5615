-- The shadow's arithmetic on channels: each operation is one of binary32, in the order of `drop_shadow.rs`.
use Rattle.std.specs.Prelude.{cond, ℕ, pos, Float}
use Rattle.std.specs.Float.{binary32}
use Rattle.std.specs.Float.Ieee.{add, sub, mul, div, of_int, lt}
use Rattle.binary32.specs.Ranges.{one32}
use Rattle.binary32.specs.Round.{top32, to_byte}

-- a byte as a value from 0 to 1: value / 255.0
unfoldable pub norm : ℕ → Float
norm value = div binary32 (of_int binary32 (pos value)) top32

-- a value from 0 to 1 as a byte: times 255.0, rounded, held at 255. Of a colour's component it is the shadow's channel
unfoldable pub norm_byte : Float → ℕ
norm_byte x = to_byte (mul binary32 x top32)

-- at most 1
unfoldable pub at_most_one : Float → Float
at_most_one x = cond (lt x one32) x one32

-- the shadow's alpha, of the colour's alpha and the copy's: (a/255 · colour alpha), at most 1, times 255, rounded
unfoldable pub shadow_alpha : Float → ℕ → ℕ
shadow_alpha alpha a = norm_byte (at_most_one (mul binary32 (norm a) alpha))

-- a channel of the source over that of the destination: src/255 + dst/255 · (1 - src alpha/255), times 255, rounded and held at 255
unfoldable pub over : ℕ → ℕ → ℕ → ℕ
over src dst alpha = norm_byte (add binary32 (norm src) (mul binary32 (norm dst) (sub binary32 one32 (norm alpha))))
