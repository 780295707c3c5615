-- A plane moved row by row: what stands after some turns, what a turn does, and that all turns make the moved plane.
use mathlib.Core.Path.{◌≡◌, refl, sym, ap, ◌∙◌}
use mathlib.Core.Bool.{Bool, true, false, cond}
use mathlib.Core.List.{List}
use mathlib.Core.Logic.{◌≢◌}
use Prim.Native.Nat.{ℕ, ◌+◌, ◌-◌, ◌*◌, ◌/◌, ◌%◌, ◌≤◌, ◌<◌}
use native.Mathlib.Nat.{add-mul, mul-le-mul_right, mod-lt, div-lt_iff_lt-mul, div-add-mod'}
use native.Mathlib.Omega.{arith}
use lib.Dec.{ltb, eqb}
use lib.ListN.{length}
use borrow.Author.Tests.{ltb-true, ltb-false, eqb-true, eqb-false}
use Rattle.picture.proofs.Planes.{pixel_fits}
use Rattle.binary32.specs.declared.Offset.{Offset}
use Rattle.shift.specs.Shift.{moved, shifted}
use Rattle.picture.specs.Planes.{Line}
use Rattle.picture.specs.Buffers.{line_of, line_from, placed_at}
use Rattle.picture.proofs.Placed.{placed_before, placed_inside, placed_past, length_placed, placed_at_lem}
use Rattle.shift.specs.Bytes.{blank, zeroed, run_moved, turn_row, plane_shifted, OneWay}
use Rattle.shift.proofs.Moved.{Where, before, inside, past, find, from_before, from_inside, from_past, moved_ext, moved_zeros}
use Rattle.shift.proofs.Zeroed.{blank_before, blank_inside, blank_past, ends_zeroed}
use Rattle.shift.proofs.Columns.{row_fits}

-- how many of h rows stay inside
abbrev pub staying : Offset → ℕ → ℕ
staying dy h = h - (dy.plus + dy.minus)

-- the rows that stay inside, with those above and below them, are all
pub rows_split : (dy : Offset) (w h : ℕ) → dy.plus + dy.minus < h →
    (dy.plus * w ≤ (dy.plus + staying dy h) * w) × ((dy.plus + staying dy h) * w + dy.minus * w ≡ h * w)
rows_split dy w h l = (
  mul-le-mul_right w (omega arith),
  sym (add-mul (dy.plus + staying dy h) dy.minus w) ∙ ap (λ (k : ℕ). k * w) (omega arith),
)

module _ (dy : Offset) (n : ℕ) where
  pub turn_in : (k : ℕ) → k < n → turn_row dy n k < n
  turn_in k l = by_test (ltb 0 dy.plus)
    where
      by_test : (t : Bool) → cond t (n - 1 - k) k < n
      by_test true = omega arith
      by_test false = l

  turn_twice : (k : ℕ) → k < n → turn_row dy n (turn_row dy n k) ≡ k
  turn_twice k l = by_test (ltb 0 dy.plus)
    where
      by_test : (t : Bool) → cond t (n - 1 - cond t (n - 1 - k) k) (cond t (n - 1 - k) k) ≡ k
      by_test true = omega arith
      by_test false = refl

  turn_one : (r q : ℕ) → r < n → q < n → turn_row dy n r ≡ turn_row dy n q → r ≡ q
  turn_one r q l m e = sym (turn_twice r l) ∙ ap (turn_row dy n) e ∙ turn_twice q m

  -- the row that row r is made of has its own turn no sooner
  turn_order : OneWay dy → (r q : ℕ) → r < n → q < n → r + dy.minus ≡ q + dy.plus → turn_row dy n r ≤ turn_row dy n q
  turn_order one r q l m e = by_test (ltb 0 dy.plus) refl
    where
      by_test : (t : Bool) → ltb 0 dy.plus ≡ t → cond t (n - 1 - r) r ≤ cond t (n - 1 - q) q
      by_test true f = let p = ltb-true 0 dy.plus f in omega arith
      by_test false f = let p = ltb-false 0 dy.plus f in omega arith

-- after k turns the rows of these are moved, and each other is as it was
pub record Turned (dx dy : Offset) (w h : ℕ) (old : List ℕ) (k : ℕ) (bytes : List ℕ) : Type 0 where
  pub same : length bytes ≡ length old
  pub done : (r x : ℕ) → r < staying dy h → x < w → turn_row dy (staying dy h) r < k →
      line_from ((r + dy.plus) * w) bytes x ≡ moved dx w (line_from ((r + dy.minus) * w) old) x
  pub left : (y x : ℕ) → y < h → x < w → ((r : ℕ) → r < staying dy h → y ≡ r + dy.plus → k ≤ turn_row dy (staying dy h) r) →
      line_from (y * w) bytes x ≡ line_from (y * w) old x

pub none_turned : (dx dy : Offset) (w h : ℕ) (old : List ℕ) → Turned dx dy w h old 0 old
none_turned dx dy w h old = record { same = refl; done = λ r x _ _ l. absurd (omega arith); left = λ y x _ _ _. refl }

-- row y is made of row z
module _ (dx : Offset) (w h z y : ℕ) (bytes : List ℕ) (exact : length bytes ≡ h * w) (x : ℕ) (l : x < w) where
  abbrev made : Line
  made = moved dx w (line_from (z * w) bytes)

  row_made : y < h → line_from (y * w) (run_moved dx w (z * w) (y * w) bytes) x ≡ moved dx w (line_from (z * w) bytes) x
  row_made m = placed_at_lem w (y * w) made bytes (y * w + x) (omega (arith, pixel_fits w h x y l m)) ∙ placed_inside w (y * w) made bytes (y * w + x) x refl l

  row_kept : (q : ℕ) → q < h → q ≢ y → line_from (q * w) (run_moved dx w (z * w) (y * w) bytes) x ≡ line_from (q * w) bytes x
  row_kept q m ne = placed_at_lem w (y * w) made bytes (q * w + x) (omega (arith, pixel_fits w h x q l m)) ∙ by_test (ltb q y) refl
    where
      by_test : (t : Bool) → ltb q y ≡ t → placed_at w (y * w) made bytes (q * w + x) ≡ line_from (q * w) bytes x
      by_test true t = placed_before w (y * w) made bytes (q * w + x) (omega (arith, row_fits w y q (ltb-true q y t)))
      by_test false t = let k = ltb-false q y t in placed_past w (y * w) made bytes (q * w + x) (omega (arith, row_fits w q y (omega arith)))

module _ (dx dy : Offset) (w h : ℕ) (old : List ℕ) (exact : length old ≡ h * w) (one : OneWay dy) (wide : dx.plus + dx.minus < w) where
  abbrev n : ℕ
  n = staying dy h

  module _ (k : ℕ) (bytes : List ℕ) (t : Turned dx dy w h old k bytes) where
    pub row_turned : k < n → let r = turn_row dy n k in Turned dx dy w h old (k + 1) (run_moved dx w ((r + dy.minus) * w) ((r + dy.plus) * w) bytes)
    row_turned l =
        let r = turn_row dy n k in
        let lr : r < n = turn_in dy n k l in
        let back : turn_row dy n r ≡ k = turn_twice dy n k l in
        let e : length bytes ≡ h * w = t.same ∙ exact in
        record {
          same = length_placed w ((r + dy.plus) * w) _ bytes ∙ t.same;
          done = λ q x lq lx m. by_test r lr back e q x lq lx m (eqb q r) refl;
          left = λ y x ly lx f.
              row_kept dx w h (r + dy.minus) (r + dy.plus) bytes e x lx y ly (λ g. let u = f r lr g in let z : ⊥ = omega arith in z)
              ∙ t.left y x ly lx (λ q lq g. omega (arith, f q lq g));
        }
      where
        by_test : (r : ℕ) → r < n → turn_row dy n r ≡ k → length bytes ≡ h * w → (q x : ℕ) → q < n → x < w → turn_row dy n q < k + 1 → (b : Bool) → eqb q r ≡ b →
            line_from ((q + dy.plus) * w) (run_moved dx w ((r + dy.minus) * w) ((r + dy.plus) * w) bytes) x ≡ moved dx w (line_from ((q + dy.minus) * w) old) x
        by_test r lr back e q x lq lx m true b =
            rw (eqb-true q r b)
            (row_made dx w h (r + dy.minus) (r + dy.plus) bytes e x lx (omega arith)
            ∙ moved_ext dx w _ _ x (λ i li. t.left (r + dy.minus) i (omega arith) li (λ p lp g. omega (arith, turn_order dy n one r p lr lp g))))
        by_test r lr back e q x lq lx m false b =
            let ne = eqb-false q r b in
            let not : turn_row dy n q ≢ k = λ g. ne (turn_one dy n q r lq lr (g ∙ sym back)) in
            row_kept dx w h (r + dy.minus) (r + dy.plus) bytes e x lx (q + dy.plus) (omega arith) (λ g. ne (omega arith))
            ∙ t.done q x lq lx (omega arith)

  -- a row of zeros where y - dy does not lie inside
  row_out : (x y : ℕ) → ((i : ℕ) → moved dy h (λ j. line_of old (j * w + i)) y ≡ 0) → shifted dx dy w h (λ i j. line_of old (j * w + i)) x y ≡ 0
  unfolding shifted
  row_out x y z = moved_zeros dx w _ x (λ i _. z i)

  -- byte x of row y, once the rows that do not stay inside are cleared
  module _ (k : ℕ) (bytes : List ℕ) (t : Turned dx dy w h old k bytes) (all : n ≤ k) (fits : dy.plus + dy.minus < h) (x y : ℕ) (lx : x < w) (ly : y < h) where
    rows_at : Where n y dy.plus →
        blank ((dy.plus + n) * w) (dy.minus * w) (y * w + x) (blank 0 (dy.plus * w) (y * w + x) (line_of bytes (y * w + x)))
        ≡ shifted dx dy w h (λ i j. line_of old (j * w + i)) x y
    unfolding shifted
    rows_at (before m) =
        let e = row_fits w dy.plus y m in
        blank_before ((dy.plus + n) * w) (dy.minus * w) (y * w + x) _ (omega (arith, add-mul dy.plus n w))
        ∙ blank_inside 0 (dy.plus * w) (y * w + x) _ (omega arith) (omega arith)
        ∙ sym (row_out x y (λ i. from_before dy h _ y (omega arith)))
    rows_at (inside r e m) =
        let q : y ≡ r + dy.plus = omega arith in
        let f = row_fits w (dy.plus + n) y (omega arith) in
        let g = mul-le-mul_right {m = dy.plus} {n = y} w (omega arith) in
        blank_before ((dy.plus + n) * w) (dy.minus * w) (y * w + x) _ (omega arith)
        ∙ blank_past 0 (dy.plus * w) (y * w + x) _ (omega arith)
        ∙ ap (λ (j : ℕ). line_of bytes (j * w + x)) q
        ∙ t.done r x m lx (omega (arith, turn_in dy n r m))
        ∙ moved_ext dx w _ _ x (λ i _. sym (from_inside dy h (λ j. line_of old (j * w + i)) y (r + dy.minus) (omega arith) (omega arith)))
    rows_at (past m) =
        let f = mul-le-mul_right {m = dy.plus + n} {n = y} w m in
        let g = rows_split dy w h fits in
        blank_inside ((dy.plus + n) * w) (dy.minus * w) (y * w + x) _ (omega arith) (omega (arith, pixel_fits w h x y lx ly))
        ∙ sym (row_out x y (λ i. from_past dy h _ y (omega arith)))

  pub rows_moved : (k : ℕ) (bytes : List ℕ) → Turned dx dy w h old k bytes → n ≤ k → dy.plus + dy.minus < h →
      zeroed ((dy.plus + n) * w) (dy.minus * w) (zeroed 0 (dy.plus * w) bytes) ≡ plane_shifted dx dy w h old
  unfolding plane_shifted
  rows_moved k bytes t all fits =
      ends_zeroed (h * w) _ bytes 0 (dy.plus * w) ((dy.plus + n) * w) (dy.minus * w) (t.same ∙ exact)
      (λ j l.
      ap (λ (i : ℕ). blank ((dy.plus + n) * w) (dy.minus * w) i (blank 0 (dy.plus * w) i (line_of bytes i))) (sym (div-add-mod' j w))
      ∙ rows_at k bytes t all fits (j % w) (j / w) (mod-lt j (omega arith)) ((div-lt_iff_lt-mul (omega arith)).1 l) (find n (j / w) dy.plus))
