-- Where an entry stands, and what a table says at a corner.
use Rattle.std.proofs.Common.{◌≡◌, ℕ, zero, suc, ◌+◌, ◌-◌, ◌*◌, ◌/◌, ◌%◌, ◌<◌, ◌≤◌, Bool, true, false, cond, eqb, List, get_or, sym, refl, ap, ◌∙◌, mul-le-mul_right, suc-mul, mul_comm, add-mul, one-mul, add-one, arith, ne_eqb}
use borrow.Author.Tests.{eqb-false}
use Rattle.picture.specs.Planes.{Plane}
use Rattle.picture.proofs.Planes.{quotient, remainder}
use Rattle.binary32.specs.Taps.{sum_to}
use Rattle.area.specs.Area.{entry, corner}
use Rattle.area.proofs.Sums.{sum_none}

-- the entry of the last pixel left of x and above y lies before row y
pub before_row : (w x y : ℕ) → 0 < x → x ≤ w → 0 < y → (y - 1) * w + (x - 1) < y * w
before_row w x (suc y) lx hx ly = let z : suc y - 1 ≡ y = omega arith in rw z (omega (arith, suc-mul y w))
before_row w x zero lx hx ly = absurd (omega arith)

-- rows in their order
pub rows_le : (w y n : ℕ) → y ≤ n → y * w ≤ n * w
rows_le w y n l = mul-le-mul_right {m = y} {n = n} w l

-- y rows of a picture whose sides have other names
pub rows_in : {w h v u : ℕ} → v ≡ w → u ≡ h → (y : ℕ) → y ≤ u → y * v ≤ w * h
rows_in {w} {h} p q y l = rw p (omega (arith, rows_le w y h (omega arith), mul_comm w h))

-- row y ends where row y + 1 begins
pub row_ends : (w y : ℕ) → (y + 1) * w ≡ y * w + w
row_ends w y = add-mul y 1 w ∙ ap (λ (k : ℕ). y * w + k) (one-mul w)

-- no columns, or no rows: no sum
no_columns : (p : Plane) (y : ℕ) → entry p 0 y ≡ 0
unfolding sum_to
no_columns p y = omega (arith, sum_none y)

no_rows : (p : Plane) (x : ℕ) → entry p x 0 ≡ 0
unfolding sum_to
no_rows p x = refl

-- tables that agree above row y agree at a corner there
pub corner_same : (old new : List ℕ) (w x y : ℕ) → x ≤ w → ((k : ℕ) → k < y * w → get_or new k 0 ≡ get_or old k 0) → corner new w x y ≡ corner old w x y
corner_same old new w x y l same = by_column (eqb x 0) refl
  where
    by_row : (x ≡ 0 → ⊥) → (b : Bool) → eqb y 0 ≡ b → cond (eqb y 0) 0 (get_or new ((y - 1) * w + (x - 1)) 0) ≡ cond (eqb y 0) 0 (get_or old ((y - 1) * w + (x - 1)) 0)
    by_row n true e = rw e refl
    by_row n false e = let m = eqb-false y 0 e in rw e (same _ (before_row w x y (omega arith) l (omega arith)))

    by_column : (b : Bool) → eqb x 0 ≡ b → corner new w x y ≡ corner old w x y
    by_column true e = rw e refl
    by_column false e = rw e (by_row (eqb-false x 0 e) (eqb y 0) refl)

-- a table that has the numbers of a plane above row y
pub corner_is : (p : Plane) (table : List ℕ) (w x y : ℕ) → x ≤ w → ((k : ℕ) → k < y * w → get_or table k 0 ≡ entry p (k % w + 1) (k / w + 1)) → corner table w x y ≡ entry p x y
corner_is p table w zero y l is = sym (no_columns p y)
corner_is p table w (suc x) zero l is = rw (ne_eqb (suc x) 0 (λ q. omega arith)) (sym (no_rows p (suc x)))
corner_is p table w (suc x) (suc y) l is =
    let a : suc x - 1 ≡ x = omega arith in
    let b : suc y - 1 ≡ y = omega arith in
    let short : x < w = omega arith in
    rw (ne_eqb (suc x) 0 (λ q. omega arith), ne_eqb (suc y) 0 (λ q. omega arith), a, b)
    (is (y * w + x) (omega (arith, suc-mul y w)) ∙ rw (remainder w y x short, quotient w y x short, add-one x, add-one y))
