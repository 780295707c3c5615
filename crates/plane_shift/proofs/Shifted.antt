-- Four planes moved one after the other are the picture moved, in planes.
use mathlib.Core.Path.{◌≡◌, ◌∙◌, refl, sym, ap}
use mathlib.Core.Bool.{Bool, true, false}
use mathlib.Core.List.{List}
use Prim.Native.Nat.{ℕ, ◌+◌, ◌-◌, ◌*◌, ◌≤◌, ◌<◌}
use native.Mathlib.Omega.{arith}
use native.Mathlib.Nat.{mul_comm}
use lib.Dec.{ltb}
use lib.ListN.{length, get_or, length-take, length-drop}
use borrow.Author.Tests.{ltb-true, ltb-false}
use borrow.Rule.Slice.PartMut.{mid_of, put_mid, same_len_mid}
use Rattle.picture.specs.Buffers.{line_of}
use Rattle.picture.proofs.Planes.{pixel_fits}
use Rattle.picture.proofs.Spans.{within}
use Rattle.binary32.specs.declared.Offset.{Offset}
use Rattle.planes.specs.Planar.{plane_of, on_planes}
use Rattle.planes.proofs.Planar.{planes_ext}
use Rattle.planes.proofs.Once.{on_planes_lem}
use Rattle.shift.specs.Shift.{shifted, shifted_picture}
use Rattle.shift.specs.Bytes.{plane_shifted}
use Rattle.shift.proofs.Moved.{shifted_local}
use Rattle.shift.proofs.Plane.{plane_built}
use Rattle.plane_shift.proofs.Lent.{put_before, put_inside, put_after, mid_at}

module _ (dx dy : Offset) (w h : ℕ) where
  -- one plane's bytes, moved
  plane_at : (bytes : List ℕ) (x y : ℕ) → x < w → y < h → get_or (plane_shifted dx dy w h bytes) (y * w + x) 0 ≡ shifted dx dy w h (λ i j. line_of bytes (j * w + i)) x y
  unfolding plane_shifted
  plane_at bytes x y lx ly = plane_built w h (shifted dx dy w h (λ i j. line_of bytes (j * w + i))) x y lx ly

  -- the planes below c are moved, and the others are as they were
  pub record BelowMoved (old new : List ℕ) (c : ℕ) : Type 0 where
    pub size : length new ≡ length old
    pub below : (d x y : ℕ) → d < c → x < w → y < h → plane_of new w h d x y ≡ shifted dx dy w h (plane_of old w h d) x y
    pub above : (d x y : ℕ) → c ≤ d → d < 4 → x < w → y < h → plane_of new w h d x y ≡ plane_of old w h d x y

  pub none_moved : (old : List ℕ) → BelowMoved old old 0
  none_moved old = record { size = refl; below = λ d x y l. absurd (omega arith); above = λ d x y _ _ _ _. refl }

  module _ (old new part : List ℕ) (c n : ℕ) (is : n ≡ h * w) (whole : length old ≡ 4 * (h * w)) (lc : c < 4) (so : BelowMoved old new c)
      (kept : length part ≡ length (mid_of (c * n) (c * n + n - c * n) new)) (made : part ≡ plane_shifted dx dy w h (mid_of (c * n) (c * n + n - c * n) new)) where
    -- the part is plane c, and lies inside
    abbrev k : ℕ
    k = c * n + n - c * n

    abbrev after : List ℕ
    after = put_mid (c * n) k new part

    start : c * n ≡ c * (h * w)
    start = ap (λ (m : ℕ). c * m) is

    fits : c * n + k ≤ length new
    fits = omega (arith, within 0 n c 4 lc, so.size, whole, is)

    long : length part ≡ k
    long = kept ∙ simp (length-take, length-drop) (omega (arith, fits))

    earlier : (d x y : ℕ) → d < c → x < w → y < h → plane_of after w h d x y ≡ plane_of new w h d x y
    unfolding plane_of
    earlier d x y l lx ly = put_before (c * n) k new part fits long (d * (h * w) + (y * w + x)) (omega (arith, within 0 (h * w) d c l, pixel_fits w h x y lx ly, start))

    here : (x y : ℕ) → x < w → y < h → plane_of after w h c x y ≡ shifted dx dy w h (plane_of old w h c) x y
    unfolding plane_of
    here x y lx ly =
        let inside : y * w + x < k = omega (arith, pixel_fits w h x y lx ly, is) in
        ap (line_of after) {x = c * (h * w) + (y * w + x)} {y = c * n + (y * w + x)} (omega (arith, start))
        ∙ put_inside (c * n) k new part fits long (y * w + x) inside
        ∙ read_of made (y * w + x)
        ∙ plane_at (mid_of (c * n) k new) x y lx ly
        ∙ shifted_local dx dy w h _ _
        (λ i j li lj.
        let inner : j * w + i < k = omega (arith, pixel_fits w h i j li lj, is) in
        mid_at (c * n) k new part fits long (j * w + i) inner
        ∙ ap (line_of new) {x = c * n + (j * w + i)} {y = c * (h * w) + (j * w + i)} (omega (arith, start))
        ∙ so.above c i j (omega arith) lc li lj)
        x y
      where
        read_of : {l m : List ℕ} → l ≡ m → (i : ℕ) → get_or l i 0 ≡ get_or m i 0
        read_of e i = ap (λ (l : List ℕ). get_or l i 0) e

    later : (d x y : ℕ) → c < d → d < 4 → x < w → y < h → plane_of after w h d x y ≡ plane_of new w h d x y
    unfolding plane_of
    later d x y l ld lx ly =
        let i = d * (h * w) + (y * w + x) in
        let j = i - (c * n + k) in
        let at : i ≡ c * n + (k + j) = omega (arith, within 0 (h * w) c d l, start, is) in
        ap (line_of after) {x = i} {y = c * n + (k + j)} at ∙ put_after (c * n) k new part fits long j ∙ ap (line_of new) {x = c * n + (k + j)} {y = i} (sym at)

    -- one plane more
    pub plane_more : BelowMoved old after (c + 1)
    plane_more =
        record {
          size = same_len_mid (c * n) k new part kept ∙ so.size;
          below = λ d x y ld lx ly. by_below d x y ld lx ly (ltb d c) refl;
          above = λ d x y lo ld lx ly. later d x y (omega arith) ld lx ly ∙ so.above d x y (omega arith) ld lx ly;
        }
      where
        by_below : (d x y : ℕ) → d < c + 1 → x < w → y < h → (b : Bool) → ltb d c ≡ b → plane_of after w h d x y ≡ shifted dx dy w h (plane_of old w h d) x y
        by_below d x y ld lx ly true t = let l = ltb-true d c t in earlier d x y l lx ly ∙ so.below d x y l lx ly
        by_below d x y ld lx ly false t = let m = ltb-false d c t in let e : d ≡ c = omega arith in rw e (here x y lx ly)

  -- all four are moved: they are the picture moved
  pub all_moved : (old new : List ℕ) → length old ≡ 4 * (h * w) → BelowMoved old new 4 → new ≡ on_planes w h (shifted_picture dx dy w h) old
  unfolding shifted_picture
  all_moved old new whole so =
      planes_ext w h _ new (so.size ∙ whole ∙ ap (λ (k : ℕ). 4 * k) (mul_comm h w)) (λ c x y lc lx ly. so.below c x y lc lx ly)
      ∙ sym
      (on_planes_lem w h (λ F c. shifted dx dy w h (F c)) (λ F G e c x y lc lx ly. shifted_local dx dy w h (F c) (G c) (λ i j li lj. e c i j lc li lj) x y) (shifted_picture dx dy w h) (λ p. refl) old)
