-- Alpha's plane, taken out of four, and the shadow that it casts on them.
use mathlib.Core.Path.{◌≡◌, ◌∙◌, sym, ap}
use mathlib.Core.Bool.{Bool}
use mathlib.Core.List.{List}
use Prim.Native.Nat.{ℕ, ◌+◌, ◌*◌, ◌≤◌, ◌<◌}
use native.Mathlib.Nat.{mul_comm}
use native.Mathlib.Omega.{arith}
use lib.Ieee.{Float}
use lib.ListN.{take, drop}
use lib.Seq.{get_or-take, get_or-drop}
use Rattle.picture.specs.Planes.{Plane}
use Rattle.picture.specs.Buffers.{line_of}
use Rattle.picture.specs.declared.EdgeMode.{EdgeMode}
use Rattle.picture.proofs.Planes.{pixel_fits}
use Rattle.planes.specs.Planar.{plane_of, painted_planes, on_planes}
use Rattle.planes.proofs.Planar.{length_planes, plane_painted, planes_ext}
use Rattle.planes.proofs.Once.{on_planes_lem}
use Rattle.composite.specs.Plane.{plane_in, shadow_on}
use Rattle.drop_shadow.specs.Shadowed.{colour_of, shadowed}
use Rattle.drop_shadow.specs.Cast.{cast_bytes}
use Rattle.drop_shadow.specs.declared.Recipe.{Recipe}
use Rattle.drop_shadow.proofs.Cast.{shadowing, shadow_local, cast_laid, shadowed_is}

-- planes that agree inside are the same bytes
pub planes_same : (w h : ℕ) (F G : ℕ → Plane) → ((c x y : ℕ) → c < 4 → x < w → y < h → F c x y ≡ G c x y) → painted_planes w h F ≡ painted_planes w h G
planes_same w h F G e =
    planes_ext w h G (painted_planes w h F) (length_planes w h F) (λ c x y lc lx ly. plane_painted w h F c x y lc lx ly ∙ e c x y lc lx ly)

-- what follows three planes of n bytes is alpha's
pub last_plane : (planes : List ℕ) (w h n k x y : ℕ) → n ≡ w * h → n ≤ k → x < w → y < h → plane_in (take k (drop (3 * n) planes)) w x y ≡ plane_of planes w h 3 x y
unfolding plane_in plane_of
last_plane planes w h n k x y e m lx ly =
    get_or-take k (drop (3 * n) planes) (y * w + x) 0 (omega (arith, pixel_fits w h x y lx ly, mul_comm w h))
    ∙ get_or-drop (3 * n) planes (y * w + x) 0
    ∙ ap (λ (m : ℕ). line_of planes (3 * m + (y * w + x))) (e ∙ mul_comm w h)

-- planes with the shadow of that one are the picture with its shadow
pub planes_shadowed : (mode : EdgeMode) (weights : List Float) (n : ℕ) (recipe : Recipe) (w h : ℕ) → 0 < w → 0 < h → (composite : Bool) (planes : List ℕ) (m k : ℕ) → m ≡ w * h → m ≤ k →
    painted_planes w h (shadow_on composite (colour_of recipe) (plane_of planes w h) (plane_in (cast_bytes mode weights n recipe w h (take k (drop (3 * m) planes))) w))
    ≡ on_planes w h (shadowed mode weights n recipe composite w h) planes
planes_shadowed mode weights n recipe w h zw zh composite planes m k e l =
    planes_same w h _ _
    (λ c x y lc lx ly.
    cast_laid mode weights n recipe w h zw zh composite (take k (drop (3 * m) planes)) (plane_of planes w h) (λ i j li lj. last_plane planes w h m k i j e l li lj) c x y lx ly)
    ∙ sym
    (on_planes_lem w h (shadowing mode weights n recipe w h zw zh composite) (shadow_local mode weights n recipe w h zw zh composite) (shadowed mode weights n recipe composite w h)
    (shadowed_is mode weights n recipe w h zw zh composite) planes)
