-- The loop that lists the points of one row: how it stands before element x.
use mathlib.Core.Path.{◌≡◌, refl, ◌∙◌, ap, sym}
use mathlib.Core.List.{List, [], ◌∷◌, ◌++◌}
use Prim.Native.Nat.{ℕ, suc, ◌+◌, ◌-◌, ◌*◌, ◌≤◌, ◌<◌}
use native.Mathlib.Nat.{add-zero, zero-mul, suc-mul, mul-le-mul, mul-le-mul_right}
use native.Mathlib.Numerals.{add-one}
use native.Mathlib.Omega.{arith}
use lib.ListN.{length, get_or, set, length-append, length-set, get_or-eq_default}
use Rattle.picture.proofs.Planes.{pixel_fits}
use Rattle.picture.proofs.Sizes.{room_is}
use Rattle.mending.specs.Changes.{laid_entries}
use Rattle.back_passes.specs.Worth.{NextNonzero}
use Rattle.points.specs.Points.{point, points_below, product_at}
use Rattle.points.specs.Needs.{RowAsked}
use Rattle.points.proofs.Points.{points_one, points_skip, count_up, laid_more, laid_room}
use Rattle.points.proofs.Rows.{product_some, product_of, rows_skip}

pub record RowTurn (xs : List ℕ) (w : ℕ) (ys : List ℕ) (y : ℕ) (first list : List (List ℕ)) (k x : ℕ) : Type 0 where
  pub high : x ≤ length xs
  pub worth : x < length xs → get_or xs x 0 ≡ 0 → ⊥
  pub counted : k ≡ length (points_below (product_at w xs ys) (y * w + x))
  pub same : length list ≡ length first
  pub laying : (old : List (List ℕ)) → first ≡ laid_entries (points_below (product_at w xs ys) (y * w)) old → list ≡ laid_entries (points_below (product_at w xs ys) (y * w + x)) old

module _ (xs : List ℕ) (w : ℕ) (ys : List ℕ) (y : ℕ) where
  -- places of a row without shares have no points
  row_skip : (a b : ℕ) → a ≤ b → b ≤ w → ((j : ℕ) → a ≤ j → j < b → get_or xs j 0 ≡ 0) → points_below (product_at w xs ys) (y * w + b) ≡ points_below (product_at w xs ys) (y * w + a)
  row_skip a b l m z =
      points_skip (product_at w xs ys) (y * w + a) (y * w + b) (omega arith)
      (λ k ka kb.
      let e : k ≡ y * w + (k - y * w) = omega arith in
      ap (product_at w xs ys) e ∙ product_of w xs ys (k - y * w) y (omega arith) ∙ ap (λ (v : ℕ). v * get_or ys y 0) (z (k - y * w) (omega arith) (omega arith)) ∙ zero-mul (get_or ys y 0))

  module _ (from room k : ℕ) (r : RowAsked xs w ys y from room k) where
    pub turn_first : (list : List (List ℕ)) → RowTurn xs w ys y list list k from
    turn_first list =
        let skip = row_skip 0 from (omega arith) (omega (arith, r.first.high, r.rows.within)) r.first.blank ∙ ap (points_below (product_at w xs ys)) (add-zero (y * w)) in
        record {
          high = r.first.high;
          worth = r.first.found;
          counted = r.counted ∙ ap length (sym skip);
          same = refl;
          laying = λ old e. e ∙ ap (λ (new : List (List ℕ)). laid_entries new old) (sym skip);
        }

    -- its places are small
    pub place_fits : y * w + w ≤ 4294967296
    place_fits =
        omega (arith, suc-mul y w, mul-le-mul_right {m = suc y} {n = length ys} w r.inside, mul-le-mul {n₁ = length ys} {m₁ = w} {n₂ = 65536} {m₂ = 65536} (omega (arith, room_is, r.rows.tall)) (omega (arith, room_is, r.rows.wide)))

    module _ (first list : List (List ℕ)) (j x : ℕ) (t : RowTurn xs w ys y first list j x) (l : x < length xs) where
      -- this place's point
      here : points_below (product_at w xs ys) (y * w + (x + 1)) ≡ points_below (product_at w xs ys) (y * w + x) ++ (point (y * w + x) (get_or xs x 0 * get_or ys y 0) ∷ [])
      here =
          let at = product_of w xs ys x y (omega (arith, r.rows.within)) in
          let next : y * w + (x + 1) ≡ suc (y * w + x) = omega arith in
          ap (points_below (product_at w xs ys)) next
          ∙ points_one (product_at w xs ys) (y * w + x) (λ z. product_some (get_or xs x 0) (get_or ys y 0) (t.worth l) r.worth (sym at ∙ z))
          ∙ ap (λ (v : ℕ). points_below (product_at w xs ys) (y * w + x) ++ (point (y * w + x) v ∷ [])) at

      count_here : length (points_below (product_at w xs ys) (y * w + (x + 1))) ≡ j + 1
      count_here = ap length here ∙ length-append (points_below (product_at w xs ys) (y * w + x)) _ ∙ ap (λ (m : ℕ). m + 1) (sym t.counted)

      pub turn_room : length first ≡ room → j < length list
      turn_room e =
          omega (arith, count_here, t.same, r.rows.fits, count_up (product_at w xs ys) (y * w + (x + 1)) (length ys * w) (omega (arith, pixel_fits w (length ys) x y (omega (arith, r.rows.within)) r.inside)))

      pub turn_more : (next : ℕ) → length first ≡ room → NextNonzero xs (x + 1) next → RowTurn xs w ys y first (set list j (point (y * w + x) (get_or xs x 0 * get_or ys y 0))) (j + 1) next
      turn_more next e n =
          let skip = row_skip (x + 1) next n.low (omega (arith, n.high, r.rows.within)) n.blank in
          let P = points_below (product_at w xs ys) (y * w + x) in
          let entry = point (y * w + x) (get_or xs x 0 * get_or ys y 0) in
          record {
            high = n.high;
            worth = n.found;
            counted = sym (ap length skip ∙ count_here);
            same = length-set list j entry ∙ t.same;
            laying = λ old f.
                let is = t.laying old f in
                let room : length P < length old = laid_room old P (omega (arith, ap length is, t.counted, turn_room e)) in
                ap (λ (q : List (List ℕ)). set q j entry) is
                ∙ ap (λ (m : ℕ). set (laid_entries P old) m entry) t.counted
                ∙ laid_more old P entry room
                ∙ ap (λ (new : List (List ℕ)). laid_entries new old) (sym (skip ∙ here));
          }

    -- past the last element
    pub turn_last : (x : ℕ) → x ≡ length xs → points_below (product_at w xs ys) (y * w + w) ≡ points_below (product_at w xs ys) (y * w + x)
    turn_last x e = row_skip x w (omega (arith, r.rows.within)) (omega arith) (λ j a b. get_or-eq_default xs 0 (omega arith))

-- ---- all rows
module _ (xs : List ℕ) (w : ℕ) (ys : List ℕ) (low : 0 < w) where
  pub rows_first : (y : ℕ) → NextNonzero ys 0 y → points_below (product_at w xs ys) (y * w) ≡ []
  unfolding points_below
  rows_first y n = rows_skip w xs ys 0 y low n.low n.blank ∙ ap (points_below (product_at w xs ys)) (zero-mul w)

  -- one row more, and those without shares after it
  pub rows_next : (y next : ℕ) → NextNonzero ys (y + 1) next → points_below (product_at w xs ys) (next * w) ≡ points_below (product_at w xs ys) (y * w + w)
  rows_next y next n =
      rows_skip w xs ys (y + 1) next low n.low n.blank ∙ ap (points_below (product_at w xs ys)) (ap (λ (k : ℕ). k * w) (add-one y) ∙ suc-mul y w)

-- nothing laid into a list leaves it as it was
pub laid_none : (old : List (List ℕ)) → laid_entries [] old ≡ old
unfolding laid_entries
laid_none old = refl
