-- The shadow alone looks only at its copy's alpha.
use mathlib.Core.Path.{◌≡◌, ◌∙◌, sym}
use mathlib.Core.Bool.{false}
use mathlib.Core.List.{List}
use Prim.Native.Nat.{ℕ, ◌<◌}
use lib.Ieee.{Float}
use Rattle.picture.specs.Planes.{chan}
use Rattle.picture.specs.declared.EdgeMode.{EdgeMode}
use Rattle.picture.proofs.Planes.{painted_same}
use Rattle.passes.proofs.Local.{Same}
use Rattle.composite.specs.Plane.{tint_on}
use Rattle.drop_shadow.specs.Shadowed.{shadowed}
use Rattle.drop_shadow.specs.declared.Recipe.{Recipe}
use Rattle.drop_shadow.proofs.Cast.{cast_local, shadowed_is}

module _ (w h : ℕ) (zw : 0 < w) (zh : 0 < h) where
  -- the alphas of two pictures agree
  abbrev pub Agree : List ℕ → List ℕ → Type 0
  Agree p q = Same w h (chan p w 3) (chan q w 3)

  module _ (mode : EdgeMode) (weights : List Float) (n : ℕ) where
    -- without the original, pictures that agree in alpha come to the same bytes
    pub alone_same : (recipe : Recipe) (p q : List ℕ) → Agree p q → shadowed mode weights n recipe false w h p ≡ shadowed mode weights n recipe false w h q
    unfolding tint_on
    alone_same recipe p q e =
        shadowed_is mode weights n recipe w h zw zh false p
        ∙ painted_same w h _ _ (λ c x y lc lx ly. rw (cast_local mode weights n recipe w h zw zh (chan p w 3) (chan q w 3) e x y))
        ∙ sym (shadowed_is mode weights n recipe w h zw zh false q)
