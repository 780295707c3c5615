-- The place y·w + x has pixel x, y.
use mathlib.Core.Path.{◌≡◌, refl}
use mathlib.Core.List.{List}
use Prim.Native.Nat.{ℕ, ◌+◌, ◌*◌}
use Rattle.picture.specs.Planes.{chan}
use Rattle.pixels.specs.Pixels.{pixel, pixel_at}

pub at_place : (bytes : List ℕ) (w x y : ℕ) → pixel_at bytes (y * w + x) ≡ pixel (λ c. chan bytes w c x y)
unfolding chan
at_place bytes w x y = refl
