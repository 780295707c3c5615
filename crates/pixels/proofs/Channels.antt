-- A channel multiplied by its alpha: the nearest whole number, never above the alpha; and a few of them worked out.
use mathlib.Core.Path.{◌≡◌, refl}
use mathlib.Core.List.{[], ◌∷◌}
use Prim.Native.Nat.{ℕ, ◌+◌, ◌*◌, ◌≤◌}
use native.Mathlib.Nat.{mul-le-mul_right}
use native.Mathlib.Omega.{arith}
use Rattle.pixels.specs.Channels.{premultiply}

-- a byte multiplied does not exceed its alpha
pub premultiply_le : (channel alpha : ℕ) → channel ≤ 255 → premultiply channel alpha ≤ alpha
unfolding premultiply
premultiply_le channel alpha h = omega (arith, mul-le-mul_right alpha h)

-- 255 times it is less than half of 255 away from the product, either way
pub premultiply_nearest : (channel alpha : ℕ) → (255 * premultiply channel alpha ≤ channel * alpha + 127) × (channel * alpha ≤ 255 * premultiply channel alpha + 127)
unfolding premultiply
premultiply_nearest channel alpha = (omega arith, omega arith)

-- 127 and 128 at alpha 1, on either side of a half; 128 at alpha 2; 255 and 0 at the ends
pub premultiplies :
    (premultiply 127 1 ∷ premultiply 128 1 ∷ premultiply 128 2 ∷ premultiply 255 1 ∷ premultiply 255 255 ∷ premultiply 0 255 ∷ premultiply 255 0 ∷ [])
    ≡ (0 ∷ 1 ∷ 1 ∷ 1 ∷ 255 ∷ 0 ∷ 0 ∷ [])
unfolding premultiply
premultiplies = refl
