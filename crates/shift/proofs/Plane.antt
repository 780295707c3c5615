-- A plane moved as one line, of whose rows only what lies inside is kept, is the plane moved along both axes.
use mathlib.Core.Path.{◌≡◌, refl, sym, ap, ◌∙◌}
use mathlib.Core.Bool.{Bool, true, false, ◌||◌}
use mathlib.Core.List.{List}
use mathlib.Core.Logic.{⊎_elim}
use Prim.Native.Nat.{ℕ, ◌+◌, ◌*◌, ◌/◌, ◌%◌, ◌<◌}
use native.Mathlib.Nat.{add-mul, mul-zero, mul-le-mul_right, mod-lt, div-lt_iff_lt-mul, div-add-mod', eq-zero-or-pos}
use native.Mathlib.Omega.{arith}
use lib.ListN.{length}
use borrow.Author.Tests.{leb-true, leb-false}
use Rattle.picture.specs.Build.{build}
use Rattle.picture.specs.Planes.{Line, Plane}
use Rattle.picture.proofs.Build.{length_build, get_or-build}
use Rattle.picture.proofs.Tests.{neither}
use Rattle.picture.proofs.Planes.{remainder, quotient, pixel_fits}
use Rattle.binary32.specs.declared.Offset.{Offset}
use Rattle.shift.specs.Shift.{moved, shifted}
use Rattle.picture.specs.Buffers.{line_of}
use Rattle.shift.specs.Bytes.{slid, zeroed, inside_kept, plane_shifted, OneWay, moved_out}
use Rattle.shift.proofs.Moved.{from_before, from_inside, from_past, moved_is, moved_as, moved_zeros, moved_out as nothing_inside}
use Rattle.picture.proofs.Build.{build_same}
use Rattle.shift.proofs.Zeroed.{blank_inside}

-- the bytes of a plane, row by row, are the plane
pub plane_built : (w h : ℕ) (p : Plane) (x y : ℕ) → x < w → y < h → line_of (build (h * w) (λ i. p (i % w) (i / w))) (y * w + x) ≡ p x y
plane_built w h p x y lx ly = rw (get_or-build (h * w) _ (y * w + x) (pixel_fits w h x y lx ly), remainder w y x lx, quotient w y x lx)

-- dx columns and dy rows of w bytes, as places along all rows
abbrev pub flat : ℕ → Offset → Offset → Offset
flat w dx dy = record { plus = dy.plus * w + dx.plus; minus = dy.minus * w + dx.minus }

module _ (dx dy : Offset) (w h : ℕ) (line : Line) (x y : ℕ) where
  -- where x - dx is column i
  along : (i : ℕ) → x + dx.minus ≡ dx.plus + i → i < w → moved (flat w dx dy) (h * w) line (y * w + x) ≡ moved dy h (λ j. line (j * w + i)) y
  along i e l =
      let rows = add-mul y dy.minus w in
      moved_as dy h y (flat w dx dy) (h * w) (y * w + x) (λ j. j * w + i) line
      (λ m. omega (arith, mul-le-mul_right {m = y + dy.minus + 1} {n = dy.plus} w (omega arith), add-mul (y + dy.minus) 1 w))
      (λ j f m. (omega (arith, ap (λ (k : ℕ). k * w) f, add-mul dy.plus j w), pixel_fits w h i j l m))
      (λ m. omega (arith, mul-le-mul_right {m = dy.plus + h} {n = y + dy.minus} w m, add-mul dy.plus h w))

  -- byte x of row y
  both : moved dx w (λ _. moved (flat w dx dy) (h * w) line (y * w + x)) x ≡ shifted dx dy w h (λ i j. line (j * w + i)) x y
  unfolding shifted
  both = moved_is dx w _ x _ (from_before dx w _ x) (λ i e l. from_inside dx w _ x i e l ∙ along i e l) (from_past dx w _ x)

-- something lies inside
pub some_inside : (dx dy : Offset) (w h : ℕ) → (moved_out w dx || moved_out h dy) ≡ false → (dx.plus + dx.minus < w) × (dy.plus + dy.minus < h)
some_inside dx dy w h e = let n = neither _ _ e in (leb-false w _ n.0, leb-false h _ n.1)

-- then no place along all rows is too far
pub flat_fits : (dx dy : Offset) (w h : ℕ) → dx.plus + dx.minus < w → dy.plus + dy.minus < h → ((flat w dx dy).plus < h * w) × ((flat w dx dy).minus < h * w)
flat_fits dx dy w h l m =
    (pixel_fits w h dx.plus dy.plus (omega arith) (omega arith), pixel_fits w h dx.minus dy.minus (omega arith) (omega arith))

module _ (dx dy : Offset) (w h : ℕ) (bytes : List ℕ) (exact : length bytes ≡ h * w) where
  pub slid_kept : inside_kept dx w (slid (flat w dx dy) bytes) ≡ plane_shifted dx dy w h bytes
  unfolding inside_kept slid plane_shifted
  slid_kept =
      rw (length_build, exact)
      (build_same (h * w) _ _
      (λ i l.
      ap (λ (v : ℕ). moved dx w (λ _. v) (i % w)) (get_or-build (h * w) _ i l ∙ ap (moved (flat w dx dy) (h * w) (line_of bytes)) (sym (div-add-mod' i w)))
      ∙ both dx dy w h (line_of bytes) (i % w) (i / w)))

  -- nothing lies inside
  pub out_zeroed : OneWay dx → OneWay dy → (moved_out w dx || moved_out h dy) ≡ true → zeroed 0 (length bytes) bytes ≡ plane_shifted dx dy w h bytes
  unfolding zeroed plane_shifted shifted
  out_zeroed o u e =
      rw exact
      (build_same (h * w) _ _
      (λ i l.
      let wide = positive i l in
      blank_inside 0 (h * w) i _ (omega arith) (omega arith)
      ∙ sym (by_axis (moved_out w dx) refl e (i % w) (i / w) (mod-lt i wide) ((div-lt_iff_lt-mul wide).1 l))))
    where
      positive : (i : ℕ) → i < h * w → 0 < w
      positive i l = ⊎_elim (λ z. absurd (omega (arith, ap (λ (k : ℕ). h * k) z, mul-zero h))) (λ p. p) (eq-zero-or-pos w)

      by_axis : (t : Bool) → moved_out w dx ≡ t → (t || moved_out h dy) ≡ true → (x y : ℕ) → x < w → y < h → moved dx w (λ i. moved dy h (λ j. line_of bytes (j * w + i)) y) x ≡ 0
      by_axis true a b x y l m = nothing_inside dx w _ x o (leb-true w _ a) l
      by_axis false a b x y l m = moved_zeros dx w _ x (λ i _. nothing_inside dy h _ y u (leb-true h _ b) m)
