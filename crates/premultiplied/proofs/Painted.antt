-- Pictures that are painted: of bytes where each plane is, and premultiplied where the planes of colour are under that of alpha.
use mathlib.Core.List.{List}
use mathlib.Core.Logic.{⊎_elim}
use Prim.Native.Nat.{ℕ, ◌/◌, ◌%◌, ◌≤◌, ◌<◌}
use native.Mathlib.Omega.{arith}
use lib.ListN.{get_or-eq_default}
use Rattle.picture.specs.Planes.{Plane, bytes_of, chan, painted}
use Rattle.picture.proofs.Build.{get_or-build}
use Rattle.picture.proofs.Planes.{chan_painted, length_painted}
use Rattle.picture.proofs.Spans.{le_or_lt}
use Rattle.exact_blur.specs.Demand.{Bytes}
use Rattle.premultiplied.specs.Rule.{UnderAlpha}
use Rattle.premultiplied.specs.Stays.{KeepsPremultiplied}
use Rattle.premultiplied.proofs.Checked.{under_alpha}

-- a is at most b, and b is a byte
abbrev pub Under : ℕ → ℕ → Type 0
Under a b = (a ≤ b) × (b ≤ 255)

pub chan_byte : (p : List ℕ) (w c x y : ℕ) → Bytes p → chan p w c x y ≤ 255
unfolding chan
chan_byte p w c x y bytes = bytes _

module _ (w h : ℕ) where
  pub painted_bytes : (F : ℕ → Plane) → ((c x y : ℕ) → F c x y ≤ 255) → Bytes (painted w h F)
  unfolding painted
  painted_bytes F low i =
      ⊎_elim
      (λ (l : bytes_of w h ≤ i). rw (get_or-eq_default (painted w h F) 0 {n = i} (omega (arith, length_painted w h F))) (omega arith))
      (λ (l : i < bytes_of w h). rw (get_or-build (bytes_of w h) (λ j. F (j % 4) (j / 4 % w) (j / 4 / w)) i l) (low (i % 4) (i / 4 % w) (i / 4 / w)))
      (le_or_lt (bytes_of w h) i)

  -- each plane made of bytes is of bytes, and where colour was under alpha it is so again
  pub painted_keeps : (F : List ℕ → ℕ → Plane) → ((p : List ℕ) → Bytes p → (c x y : ℕ) → F p c x y ≤ 255) →
      ((p : List ℕ) → Bytes p → UnderAlpha w h p → (c x y : ℕ) → c < 3 → x < w → y < h → F p c x y ≤ F p 3 x y) → KeepsPremultiplied w h (λ p. painted w h (F p))
  painted_keeps F low under =
      record {
        bytes = λ p b. painted_bytes (F p) (low p b);
        premultiplied = λ p b pre.
            (under_alpha (painted w h (F p)) w h).1
            (λ c x y lc lx ly.
            rw (chan_painted w h (F p) c x y (omega arith) lx ly, chan_painted w h (F p) 3 x y (omega arith) lx ly)
            (under p b ((under_alpha p w h).0 pre) c x y lc lx ly));
      }
