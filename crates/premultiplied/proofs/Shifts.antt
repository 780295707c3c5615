-- The shift moves each channel alike, and leaves 0 where nothing comes in.
use Prim.Native.Nat.{ℕ, ◌+◌, ◌≤◌, ◌<◌}
use native.Mathlib.Omega.{arith}
use Rattle.picture.specs.Planes.{Line, Plane, chan}
use Rattle.binary32.specs.declared.Offset.{Offset}
use Rattle.shift.specs.Shift.{moved, shifted, shifted_picture}
use Rattle.shift.proofs.Moved.{Where, before, inside, past, find, from_before, from_inside, from_past}
use Rattle.premultiplied.specs.Stays.{KeepsPremultiplied}
use Rattle.premultiplied.proofs.Painted.{chan_byte, painted_keeps}

module _ (R : ℕ → ℕ → Type 0) (none : R 0 0) where
  -- what holds of 0 and of two lines inside holds of them moved
  moved_relates : (d : Offset) (s : ℕ) (p q : Line) (x : ℕ) → ((i : ℕ) → i < s → R (p i) (q i)) → R (moved d s p x) (moved d s q x)
  moved_relates d s p q x r = by (find s (x + d.minus) d.plus)
    where
      by : Where s (x + d.minus) d.plus → R (moved d s p x) (moved d s q x)
      by (before l) = rw (from_before d s p x l, from_before d s q x l) none
      by (inside i e l) = rw (from_inside d s p x i e l, from_inside d s q x i e l) (r i l)
      by (past l) = rw (from_past d s p x l, from_past d s q x l) none

  -- and so of planes
  shifted_relates : (dx dy : Offset) (w h : ℕ) (p q : Plane) (x y : ℕ) → ((u v : ℕ) → u < w → v < h → R (p u v) (q u v)) → R (shifted dx dy w h p x y) (shifted dx dy w h q x y)
  unfolding shifted
  shifted_relates dx dy w h p q x y r = moved_relates dx w _ _ x (λ i li. moved_relates dy h (p i) (q i) y (λ j lj. r i j li lj))

pub shift_keeps : (dx dy : Offset) (w h : ℕ) → KeepsPremultiplied w h (shifted_picture dx dy w h)
unfolding shifted_picture
shift_keeps dx dy w h =
    painted_keeps w h (λ p c. shifted dx dy w h (chan p w c))
    (λ p bytes c x y. shifted_relates (λ a _. a ≤ 255) (omega arith) dx dy w h (chan p w c) (chan p w c) x y (λ u v _ _. chan_byte p w c u v bytes))
    (λ p bytes low c x y lc _ _. shifted_relates ◌≤◌ (omega arith) dx dy w h (chan p w c) (chan p w 3) x y (λ u v lu lv. low c u v lc lu lv))
