-- The job's blur is accepted wherever it fits, and leaves a picture of the same size.
use mathlib.Core.Path.{◌≡◌, ◌∙◌, ap}
use mathlib.Core.List.{List}
use Prim.Native.Nat.{ℕ}
use lib.Ieee.{lt, is_nan}
use lib.ListN.{length}
use borrow.Author.Tests.{eq-eqb, le-ltb}
use Rattle.picture.specs.Planes.{bytes_of, chan, cleared}
use Rattle.picture.specs.Answer.{Answer, answered, Lent, lent, settled}
use Rattle.picture.specs.Modes.{mode_of}
use Rattle.picture.specs.Refusal.{first_else, first_of, zero_or_above, wrong_length, too_short, max_taps, wrong_taps, max_decimations, too_deep, wrong_edge}
use Rattle.picture.specs.declared.EdgeMode.TheVariants.{Duplicate}
use Rattle.picture.proofs.Planes.{length_painted}
use Rattle.binary32.specs.Ranges.{one32, finite, outside_unit, any_of, any_outside}
use Rattle.gaussian_blur.specs.Blurred.{blurred_plane, blurred}
use Rattle.gaussian_blur.specs.Outcome.{blur_checks, blurred_or_kept, blur_outcome}
use Rattle.body_blur.specs.Blur.{BodyBlur, plate_weights, plate_blur}
use Rattle.body_blur.specs.Steps.{BodyFits}

-- a blur that makes the bytes of a picture of that size
abbrev pub Keeps : BodyBlur → Type 0
Keeps blur = (w h : ℕ) (body : List ℕ) → length (blur w h body) ≡ bytes_of w h

pub keeps : Keeps plate_blur
unfolding plate_blur blurred_or_kept blurred lt
keeps w h body = length_painted w h (λ k. blurred_plane Duplicate plate_weights 1 w h (chan body w k))

module _ (w h : ℕ) (part scratch : List ℕ) (f : BodyFits w h part scratch) where
  accepted : first_of (blur_checks (length part) w h (length scratch) plate_weights 1 one32 0) ≡ 0
  unfolding first_of first_else zero_or_above wrong_length too_short max_taps wrong_taps max_decimations too_deep wrong_edge finite outside_unit any_of any_outside lt is_nan
  accepted = rw (f.sides, eq-eqb (length part) (bytes_of w h) f.exact, le-ltb (length scratch) (bytes_of w h) f.room)

  left : blur_outcome part w h scratch plate_weights 1 one32 0 ≡ answered 0 (lent (plate_blur w h part) (cleared (bytes_of w h) scratch))
  unfolding blur_outcome settled plate_blur mode_of
  left = rw accepted

  -- what a call of the blur leaves
  pub fixed : {r : ℕ} {part' work : List ℕ} → answered r (lent part' work) ≡ blur_outcome part w h scratch plate_weights 1 one32 0 →
      lent part' work ≡ lent (plate_blur w h part) (cleared (bytes_of w h) scratch)
  fixed e = ap (λ (a : Answer Lent). a.left) (e ∙ left)
