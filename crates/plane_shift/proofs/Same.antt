-- Planes moved and converted back are the picture moved, with the same refusals.
use mathlib.Core.Path.{◌≡◌, refl}
use mathlib.Core.List.{List}
use Prim.Native.Nat.{ℕ}
use lib.Ieee.{Float}
use lib.ListN.{length}
use Rattle.picture.specs.Planes.{bytes_of}
use Rattle.picture.specs.Refusal.{first_of}
use Rattle.picture.proofs.Planes.{length_painted}
use Rattle.binary32.specs.Round.{whole_offset}
use Rattle.binary32.specs.declared.Offset.{Offset}
use Rattle.planes.specs.Planar.{planar, interleaved}
use Rattle.planes.proofs.Same.{seen, same_answer}
use Rattle.shift.specs.Shift.{shifted_picture}
use Rattle.shift.specs.Outcome.{shift_checks, shift_outcome}
use Rattle.plane_shift.specs.Shifted.{shift_planes_outcome}

long : (dx dy : Offset) (w h : ℕ) (p : List ℕ) → length (shifted_picture dx dy w h p) ≡ bytes_of w h
unfolding shifted_picture
long dx dy w h p = length_painted w h _

pub shift_same : (p : List ℕ) (w h : ℕ) (dx dy : Float) → length p ≡ bytes_of w h → seen (interleaved w h) (shift_planes_outcome (planar w h p) w h dx dy) ≡ shift_outcome p w h dx dy
unfolding shift_planes_outcome shift_outcome
shift_same p w h dx dy e =
    same_answer w h (shifted_picture (whole_offset dx) (whole_offset dy) w h) p e (long (whole_offset dx) (whole_offset dy) w h p)
    (λ len. first_of (shift_checks len w h dx dy)) (interleaved w h) (λ q. q) (λ q. q) (λ q. refl) (λ q. refl)
