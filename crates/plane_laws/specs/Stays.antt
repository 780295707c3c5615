-- If r, g and b are nowhere above a on four planes before, they are not after a blur, a shift or a shadow on planes (request 09's rule, of request 13).
use Rattle.std.specs.Prelude.{List, ◌↔◌, ℕ, ◌≤◌, ◌<◌}
use Rattle.exact_blur.specs.Demand.{LentBytes}
use Rattle.premultiplied.specs.Rule.{Premultiplied}
use Rattle.planes.specs.Planar.{plane_of, interleaved}
use Rattle.plane_laws.specs.Calls.{Operation, OnPlanes}

-- of four planes of w by h: r, g and b at each place are at most a there
abbrev pub PremultipliedPlanes : ℕ → ℕ → List ℕ → Type 0
PremultipliedPlanes w h planes = (c x y : ℕ) → c < 3 → x < w → y < h → plane_of planes w h c x y ≤ plane_of planes w h 3 x y

-- it is what is said of the picture that they are
abbrev pub AsPicture : Type 0
AsPicture = (w h : ℕ) (planes : List ℕ) → PremultipliedPlanes w h planes ↔ Premultiplied w h (interleaved w h planes)

-- of a call that was lent the planes `before`, of w by h, and left them as `after`
abbrev pub LeavesPlanes : ℕ → ℕ → List ℕ → List ℕ → Type 0
LeavesPlanes w h before after = LentBytes before → PremultipliedPlanes w h before → PremultipliedPlanes w h after

-- a call of any operation, whatever it answers: a refused one leaves the planes as they were
abbrev pub PlanesStay : Type 0
PlanesStay = (o : Operation) → OnPlanes o (λ k. LeavesPlanes k.size.w k.size.h k.before.picture k.after.picture)
