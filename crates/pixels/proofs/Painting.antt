-- A loop that writes pixel after pixel: what it has so far, what it reads there, a turn, and all of it as a painted picture.
use mathlib.Core.Path.{◌≡◌, refl, ap, ◌∙◌}
use mathlib.Core.List.{List}
use Prim.Native.Nat.{ℕ, ◌+◌, ◌*◌, ◌/◌, ◌%◌, ◌≤◌, ◌<◌}
use native.Mathlib.Nat.{zero-mul, zero-add, div-add-mod'}
use native.Mathlib.Omega.{arith}
use lib.ListN.{length, get_or, set, length-set}
use Rattle.picture.specs.Planes.{Plane, bytes_of, chan, painted}
use Rattle.picture.specs.Spans.{Run}
use Rattle.picture.specs.declared.Pixel.{Pixel}
use Rattle.picture.proofs.Build.{build_ext}
use Rattle.picture.proofs.Spans.{span_none, span_more, span_join, span_ends, span_at, span_element}
use Rattle.pixels.specs.Pixels.{pixel, pixel_at, with_pixel_from, with_pixel}

-- channel c of pixel i
abbrev pub at : List ℕ → ℕ → ℕ → ℕ
at bytes i c = get_or bytes (4 * i + c) 0

pub chan_here : (bytes : List ℕ) (w c i : ℕ) → chan bytes w c (i % w) (i / w) ≡ at bytes i c
unfolding chan
chan_here bytes w c i = ap (λ (k : ℕ). at bytes k c) (div-add-mod' i w)

-- of the first row
pub chan_first : (bytes : List ℕ) (w c x : ℕ) → chan bytes w c x 0 ≡ at bytes x c
unfolding chan
chan_first bytes w c x = rw (zero-mul w, zero-add x)

-- a pixel that is written: its channels, one after another
pub pixel_run : (d : List ℕ) (o : ℕ) (f : ℕ → ℕ) → o + 4 ≤ length d → Run 0 d (with_pixel_from d o (pixel f)) o 4 f
unfolding with_pixel_from
pixel_run d o f l =
    let one : Run 0 d (set d o (f 0)) o 1 f = span_more {b = 0} (span_none (omega arith)) (omega arith) (omega arith) (omega arith) refl in
    let two = span_more {b = 1} one (omega arith) (simp length-set (omega arith)) refl refl in
    let three = span_more {b = 2} two (omega arith) (simp length-set (omega arith)) refl refl in
    span_more {b = 3} three (omega arith) (simp length-set (omega arith)) refl refl

-- one more of g's pixels, of which the first k are there from byte o on
pub pixel_more : {d e z : List ℕ} {o : ℕ} (g : ℕ → ℕ → ℕ) (k j : ℕ) (q : Pixel) → Run 0 d e o (4 * k) (λ n. g (n / 4) (n % 4)) → j ≡ o + 4 * k → j + 4 ≤ length e →
    z ≡ with_pixel_from e j q → q ≡ pixel (g k) → Run 0 d z o (4 * (k + 1)) (λ n. g (n / 4) (n % 4))
pixel_more {e = e} {o = o} g k j q s at room ez eq =
    let next = span_element {o = o} g k (omega arith) (pixel_run e j (g k) room) in
    rw (ez, eq) (span_ends (span_join (omega arith) (omega arith) (span_ends s refl (omega arith)) next) refl (omega arith))

-- the first i of n pixels are f's, and the bytes after them are as they were
pub record Painting (f : ℕ → ℕ → ℕ) (old new : List ℕ) (i n : ℕ) : Type 0 where
  pub run : Run 0 old new 0 (4 * i) (λ k. f (k / 4) (k % 4))
  pub count : i ≤ n

module _ {f : ℕ → ℕ → ℕ} {old : List ℕ} {n : ℕ} where
  pub begins : Painting f old old 0 n
  begins = record { run = span_none (omega arith); count = omega arith }

  module _ {new : List ℕ} {i : ℕ} (p : Painting f old new i n) where
    reads : (c : ℕ) → at new i c ≡ at old i c
    reads c = p.run.above (4 * i + c) (omega arith)

    -- the pixel that is next is as it was
    pub next : pixel_at new i ≡ pixel_at old i
    next = rw (reads 0, reads 1, reads 2, reads 3)

    -- it is written
    pub turn : {z : List ℕ} (q : Pixel) → i < n → 4 * i + 4 ≤ length new → z ≡ with_pixel new i q → q ≡ pixel (f i) → Painting f old z (i + 1) n
    turn q l room ez eq = record { run = pixel_more f i (4 * i) q p.run (omega arith) room ez eq; count = omega arith }

    -- all are written
    pub ends : (w h : ℕ) (F : ℕ → Plane) → i ≡ w * h → length old ≡ bytes_of w h → ((i c : ℕ) → i < w * h → f i c ≡ F c (i % w) (i / w)) → new ≡ painted w h F
    unfolding painted
    ends w h F a e same =
        build_ext (bytes_of w h) _ new (p.run.size ∙ e) (λ j l. span_at p.run j (omega arith) (omega arith) (omega arith) ∙ same (j / 4) (j % 4) (omega arith))
