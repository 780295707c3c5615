-- The points of rows: shares along two axes, and how many of their products are not 0.
use mathlib.Core.Path.{◌≡◌, refl, ◌∙◌, ap, sym}
use mathlib.Core.Bool.{Bool, true, false, cond}
use mathlib.Core.List.{List}
use Prim.Native.Nat.{ℕ, zero, suc, ◌+◌, ◌*◌, ◌/◌, ◌%◌, ◌≤◌, ◌<◌}
use native.Mathlib.Nat.{add-zero, zero-mul, mul-zero, mul-pos, mul-add, mul-one, suc-mul, le-div_iff_mul-le, div-lt_iff_lt-mul, mul-le-mul_right}
use native.Mathlib.Omega.{arith}
use borrow.Author.Tests.{eqb-true, eqb-false, ne_eqb}
use lib.Dec.{eqb}
use lib.ListN.{length, get_or}
use Rattle.picture.specs.Buffers.{line_of}
use Rattle.picture.proofs.Planes.{remainder, quotient}
use Rattle.points.specs.Points.{points_below, product_at}
use Rattle.points.proofs.Points.{points_skip, count_more}

-- a product is 0 where a factor is
pub product_some : (a b : ℕ) → (a ≡ 0 → ⊥) → (b ≡ 0 → ⊥) → a * b ≡ 0 → ⊥
product_some a b f g e = omega (arith, mul-pos (pos a f) (pos b g))
  where
    pos : (a : ℕ) → (a ≡ 0 → ⊥) → 0 < a
    pos a f = omega arith

-- one place counts where neither factor is 0
one_counts : (a b : ℕ) (t : Bool) → eqb b 0 ≡ t → ◌≡◌ {A = ℕ} (cond (eqb (a * b) 0) 0 1) (cond t 0 (cond (eqb a 0) 0 1))
one_counts a b true e = rw (eqb-true b 0 e, mul-zero a)
one_counts a b false e = by (eqb a 0) refl
  where
    by : (u : Bool) → eqb a 0 ≡ u → ◌≡◌ {A = ℕ} (cond (eqb (a * b) 0) 0 1) (cond u 0 1)
    by true z = rw (eqb-true a 0 z, zero-mul b)
    by false z = rw (ne_eqb (a * b) 0 (product_some a b (eqb-false a 0 z) (eqb-false b 0 e)))

either_sum : (t : Bool) (a b : ℕ) → cond t 0 a + cond t 0 b ≡ cond t 0 (a + b)
either_sum true a b = refl
either_sum false a b = refl

either_times : (t : Bool) (a : ℕ) → cond t 0 a ≡ a * cond t 0 1
either_times true a = sym (mul-zero a)
either_times false a = sym (mul-one a)

either_none : (t : Bool) → ◌≡◌ {A = ℕ} (cond t 0 0) 0
either_none true = refl
either_none false = refl

module _ (w : ℕ) (xs ys : List ℕ) where
  -- place x of row y
  pub product_of : (x y : ℕ) → x < w → product_at w xs ys (y * w + x) ≡ get_or xs x 0 * get_or ys y 0
  product_of x y l = rw (remainder w y x l, quotient w y x l)

  -- rows without shares have no points
  pub rows_skip : (a b : ℕ) → 0 < w → a ≤ b → ((k : ℕ) → a ≤ k → k < b → get_or ys k 0 ≡ 0) → points_below (product_at w xs ys) (b * w) ≡ points_below (product_at w xs ys) (a * w)
  rows_skip a b low l z =
      points_skip (product_at w xs ys) (a * w) (b * w) (mul-le-mul_right w l)
      (λ k ka kb. ap (λ (m : ℕ). get_or xs (k % w) 0 * m) (z (k / w) ((le-div_iff_mul-le low).1 ka) ((div-lt_iff_lt-mul low).1 kb)) ∙ mul-zero (get_or xs (k % w) 0))

  -- part of row y
  row_count : (y x : ℕ) → x ≤ w →
      length (points_below (product_at w xs ys) (y * w + x)) ≡ length (points_below (product_at w xs ys) (y * w)) + cond (eqb (get_or ys y 0) 0) 0 (length (points_below (line_of xs) x))
  unfolding points_below
  row_count y zero l = rw (add-zero (y * w), either_none (eqb (get_or ys y 0) 0)) (sym (add-zero (length (points_below (product_at w xs ys) (y * w)))))
  row_count y (suc x) l =
      let t = eqb (get_or ys y 0) 0 in
      let next : y * w + suc x ≡ suc (y * w + x) = omega arith in
      let one = ap (λ (m : ℕ). cond (eqb m 0) 0 1) (product_of x y l) ∙ one_counts (get_or xs x 0) (get_or ys y 0) t refl in
      let more = ap (λ (m : ℕ). cond t 0 m) (count_more (line_of xs) x) in
      ap (λ (m : ℕ). length (points_below (product_at w xs ys) m)) next
      ∙ omega (arith, count_more (product_at w xs ys) (y * w + x), one, row_count y x (omega arith), more, either_sum t (length (points_below (line_of xs) x)) (cond (eqb (get_or xs x 0) 0) 0 1))

  -- all rows: as many as columns times rows that have a share
  pub rows_count : (y : ℕ) → length (points_below (product_at w xs ys) (y * w)) ≡ length (points_below (line_of xs) w) * length (points_below (line_of ys) y)
  unfolding points_below
  rows_count zero = rw (zero-mul w) (sym (mul-zero (length (points_below (line_of xs) w))))
  rows_count (suc y) =
      let all = length (points_below (line_of xs) w) in
      let t = eqb (get_or ys y 0) 0 in
      ap (λ (m : ℕ). length (points_below (product_at w xs ys) m)) (suc-mul y w)
      ∙ row_count y w (omega arith)
      ∙ omega (arith, rows_count y, either_times t all, ap (λ (m : ℕ). all * m) (count_more (line_of ys) y), mul-add all (length (points_below (line_of ys) y)) (cond t 0 1))
