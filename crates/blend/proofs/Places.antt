-- The places that coordinates read: inside, every edge rule finds the coordinate itself.
use Rattle.std.proofs.Common.{Option, Some}
use mathlib.Core.Path.{◌≡◌, sym, ap, ◌∙◌, subst}
use Prim.Native.Nat.{ℕ, ◌+◌, ◌-◌, ◌<◌}
use native.Mathlib.Omega.{arith}
use Rattle.picture.specs.declared.EdgeMode.{EdgeMode}
use Rattle.edges.specs.Edges.{place, Below}
use Rattle.edges.proofs.Places.{place_near, below}

-- a coordinate inside is its own place
pub inside : (mode : EdgeMode) (s c d i : ℕ) → c ≡ d + i → i < s → Some i ≡ place mode s c d
inside mode s c d i e l =
    let at : c - d ≡ i = omega arith in sym (place_near mode s c d (omega arith) (omega arith) ∙ ap Some at)

-- a place found is one of the line's elements, or outside
pub placed : (mode : EdgeMode) (s c d : ℕ) {p : Option ℕ} → 0 < s → p ≡ place mode s c d → Below p s
placed mode s c d z e = subst (λ (q : Option ℕ). Below q s) (sym e) (below mode s c d z)
