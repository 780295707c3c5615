-- Planes with their shadow and converted back are the picture with its shadow, with the same refusals.
use mathlib.Core.Path.{◌≡◌, refl}
use mathlib.Core.Bool.{Bool, true, false}
use mathlib.Core.List.{List}
use Prim.Native.Nat.{ℕ}
use lib.Ieee.{Float}
use lib.ListN.{length}
use Rattle.picture.specs.Planes.{bytes_of, cleared}
use Rattle.picture.specs.Modes.{mode_of}
use Rattle.picture.specs.Refusal.{first_of}
use Rattle.picture.specs.Answer.{LentCopy, lent_copy}
use Rattle.picture.specs.declared.EdgeMode.{EdgeMode}
use Rattle.picture.proofs.Planes.{length_painted}
use Rattle.planes.specs.Planar.{planar, interleaved}
use Rattle.planes.proofs.Same.{seen, same_answer}
use Rattle.composite.specs.Shadow.{coloured, composed, written}
use Rattle.drop_shadow.specs.Shadowed.{shadowed}
use Rattle.drop_shadow.specs.Outcome.{shadow_checks, shadow_outcome}
use Rattle.drop_shadow.specs.declared.Recipe.{Recipe}
use Rattle.plane_shadow.specs.Outcome.{shadow_planes_outcome}

module _ (w h : ℕ) (p : List ℕ) (e : length p ≡ bytes_of w h) where
  -- the length is kept
  pub shadow_long : (mode : EdgeMode) (weights : List Float) (n : ℕ) (recipe : Recipe) (composite : Bool) → length (shadowed mode weights n recipe composite w h p) ≡ bytes_of w h
  unfolding shadowed written composed coloured
  shadow_long mode weights n recipe true = length_painted w h _
  shadow_long mode weights n recipe false = length_painted w h _

  -- the lent buffers, with the planes converted
  abbrev as_picture_copy : LentCopy → LentCopy
  as_picture_copy l = lent_copy (interleaved w h l.picture) l.scratch l.copy

  pub shadow_same : (s c : List ℕ) (weights : List Float) (n edge : ℕ) (recipe : Recipe) (composite : Bool) →
      seen as_picture_copy (shadow_planes_outcome (planar w h p) w h s c weights n edge recipe composite) ≡ shadow_outcome p w h s c weights n edge recipe composite
  unfolding shadow_planes_outcome shadow_outcome
  shadow_same s c weights n edge recipe composite =
      same_answer w h (shadowed (mode_of edge) weights n recipe composite w h) p e (shadow_long (mode_of edge) weights n recipe composite)
      (λ len. first_of (shadow_checks len w h (length s) (length c) weights n edge recipe)) as_picture_copy
      (λ q. lent_copy q s c) (λ q. lent_copy q (cleared (bytes_of w h) s) (cleared (bytes_of w h) c)) (λ q. refl) (λ q. refl)
