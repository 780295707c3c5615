-- The same picture as four planes: all r, then all g, b and a, each of w times h bytes, row by row from the top.
use Rattle.std.specs.Prelude.{◌≡◌, List, ℕ, ◌+◌, ◌*◌, ◌/◌, ◌%◌, length, get_or}
use Rattle.picture.specs.Build.{build}
use Rattle.picture.specs.Planes.{Plane, bytes_of, chan, painted}
use Rattle.picture.specs.Sizes.{Pictured}
use Rattle.picture.specs.declared.FullSize.{FullSize}

-- channel c of the planes that these bytes are, each of w by h
unfoldable pub plane_of : List ℕ → ℕ → ℕ → ℕ → Plane
plane_of planes w h c x y = get_or planes (c * (h * w) + (y * w + x)) 0

-- the bytes of four planes of w by h whose channel c is the plane F c
unfoldable pub painted_planes : ℕ → ℕ → (ℕ → Plane) → List ℕ
painted_planes w h F = build (bytes_of w h) (λ i. F (i / (h * w)) (i % (h * w) % w) (i % (h * w) / w))

-- a picture's bytes as planes
unfoldable pub planar : ℕ → ℕ → List ℕ → List ℕ
planar w h bytes = painted_planes w h (chan bytes w)

-- planes as a picture's bytes
unfoldable pub interleaved : ℕ → ℕ → List ℕ → List ℕ
interleaved w h planes = painted w h (plane_of planes w h)

-- any operation on a picture's bytes, on planes: converted, worked on and converted back
unfoldable pub on_planes : ℕ → ℕ → (List ℕ → List ℕ) → List ℕ → List ℕ
on_planes w h op planes = planar w h (op (interleaved w h planes))

-- what converting needs: the whole of one form, and exactly as much room for the other
pub record Converts (size : FullSize) (src dst : List ℕ) : Type 0 where
  pub given : Pictured size.w size.h src
  pub room : length dst ≡ bytes_of size.w size.h
