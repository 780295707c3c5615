-- A pixel inside a whole picture lies within its bytes.
use Prim.Native.Nat.{ℕ, ◌+◌, ◌*◌, ◌<◌, ◌≤◌}
use mathlib.Core.List.{List}
use native.Mathlib.Nat.{mul_comm}
use native.Mathlib.Omega.{arith}
use Rattle.picture.specs.Sizes.{Pictured}
use Rattle.picture.proofs.Planes.{pixel_fits}
use Rattle.picture.proofs.Sizes.{area}

-- the place of pixel x, y is one of the picture's
pub inside : {bytes : List ℕ} {w h : ℕ} (x y : ℕ) → Pictured w h bytes → x < w → y < h → (y * w + x < w * h) × (w * h ≤ 4294967296)
inside {bytes} {w} {h} x y p a b = (omega (arith, pixel_fits w h x y a b, mul_comm h w), area p.sized)
