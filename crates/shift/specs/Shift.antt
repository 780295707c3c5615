-- The shift: which element of a line, and which pixel of a picture, moves to each place.
use Rattle.std.specs.Prelude.{List, ℕ, ◌+◌}
use Rattle.picture.specs.Planes.{Line, Plane, chan, painted}
use Rattle.picture.specs.declared.EdgeMode.TheVariants.{None}
use Rattle.edges.specs.Edges.{sample}
use Rattle.binary32.specs.declared.Offset.{Offset}

-- a line of s elements moved by d: element x is element x - d where that lies inside, else 0
unfoldable pub moved : Offset → ℕ → Line → Line
moved d s line x = sample None s line (x + d.minus) d.plus

-- a plane of w by h moved by dx and dy: (x, y) is (x - dx, y - dy) where that lies inside, else 0
unfoldable pub shifted : Offset → Offset → ℕ → ℕ → Plane → Plane
shifted dx dy w h p x y = moved dx w (λ i. moved dy h (p i) y) x

-- the bytes of a picture of w by h pixels, each channel moved so
unfoldable pub shifted_picture : Offset → Offset → ℕ → ℕ → List ℕ → List ℕ
shifted_picture dx dy w h bytes = painted w h (λ c. shifted dx dy w h (chan bytes w c))
