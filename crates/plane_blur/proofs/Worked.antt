-- Planes made into a picture, worked on and made into planes again.
use mathlib.Core.Path.{◌≡◌, ◌∙◌, ap}
use mathlib.Core.List.{List}
use Prim.Native.Nat.{ℕ}
use Rattle.planes.specs.Planar.{planar, interleaved, on_planes}

pub worked : (w h : ℕ) (op : List ℕ → List ℕ) (planes joined done out : List ℕ) → joined ≡ interleaved w h planes → done ≡ op joined → out ≡ planar w h done → out ≡ on_planes w h op planes
unfolding on_planes
worked w h op planes joined done out e f g = g ∙ ap (planar w h) (f ∙ ap op e)
