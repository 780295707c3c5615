-- Planes blurred and converted back are the picture blurred, with the same refusals.
use mathlib.Core.Path.{◌≡◌, refl}
use mathlib.Core.Bool.{Bool, true, false, cond}
use mathlib.Core.List.{List}
use Prim.Native.Nat.{ℕ}
use lib.Ieee.{Float}
use lib.ListN.{length}
use Rattle.picture.specs.Planes.{bytes_of, cleared}
use Rattle.picture.specs.Modes.{mode_of}
use Rattle.picture.specs.Refusal.{first_of}
use Rattle.picture.specs.Answer.{Lent, lent}
use Rattle.picture.specs.declared.EdgeMode.{EdgeMode}
use Rattle.picture.proofs.Planes.{length_painted}
use Rattle.planes.specs.Planar.{planar, interleaved}
use Rattle.planes.proofs.Same.{seen, same_answer}
use Rattle.gaussian_blur.specs.Blurred.{blurred}
use Rattle.gaussian_blur.specs.Outcome.{blur_checks, above_zero, blurred_or_kept, blur_outcome}
use Rattle.plane_blur.specs.Outcome.{blur_planes_outcome}

module _ (w h : ℕ) (p : List ℕ) (e : length p ≡ bytes_of w h) where
  -- the length is kept
  pub blur_long : (mode : EdgeMode) (weights : List Float) (n : ℕ) (strength : Float) → length (blurred_or_kept mode weights n strength w h p) ≡ bytes_of w h
  unfolding blurred_or_kept blurred
  blur_long mode weights n strength = by (above_zero strength)
    where
      by : (b : Bool) → length (cond b (blurred mode weights n w h p) p) ≡ bytes_of w h
      by true = length_painted w h _
      by false = e

  -- the lent buffers, with the planes converted
  abbrev as_picture : Lent → Lent
  as_picture l = lent (interleaved w h l.picture) l.scratch

  pub blur_same : (s : List ℕ) (weights : List Float) (n : ℕ) (strength : Float) (edge : ℕ) →
      seen as_picture (blur_planes_outcome (planar w h p) w h s weights n strength edge) ≡ blur_outcome p w h s weights n strength edge
  unfolding blur_planes_outcome blur_outcome
  blur_same s weights n strength edge =
      same_answer w h (blurred_or_kept (mode_of edge) weights n strength w h) p e (blur_long (mode_of edge) weights n strength)
      (λ len. first_of (blur_checks len w h (length s) weights n strength edge)) as_picture (λ q. lent q s) (λ q. lent q (cleared (bytes_of w h) s)) (λ q. refl) (λ q. refl)
