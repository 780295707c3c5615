-- Laws of the grid: on it are the values m / 65536 for a whole m from 0 to 65536, and `numerator_of` finds the m.
use Rattle.std.proofs.Common.{◌≡◌, ℕ, ◌*◌, ◌/◌, ◌%◌, ◌<◌, ◌≤◌, Bool, true, false, cond, not, ◌&&◌, T, eqb, pos, refl, ap, ◌∙◌, le_trans, le_of_suc-le-suc, mul-le-mul_right, zero-lt-suc, div-lt_iff_lt-mul, div-add-mod', mul-div_cancel, arith, lit≤, eq-eqb, ne_eqb, eqb-true, Some, None}
use mathlib.Core.Bool.{false≢true}
use native.Mathlib.Nat.{mul-mod_left}
use lib.Ieee.{Float, fin, binary32, fits, mul, lt, of_int, to_unsigned}
use lib.Ieee.Positive.{num, den, den_pos}
use Rattle.binary32.specs.Ranges.{outside_unit}
use Rattle.binary32.specs.Grid.{Is, on_grid, numerator, grid_weight}
use Rattle.binary32.proofs.Values.{lt_true, lt_false, value→is, whole_value}
use Rattle.binary32.proofs.Ranges.{in_unit, unit_in}
use Rattle.binary32.proofs.Scaled.{scaled, Cuttable, whole_part}

-- ---- rule 5.11: on the grid are the values m / 65536 for a whole m from 0 to 65536
unit_part : (a c : ℕ) → 0 < c → a ≤ c → a * 65536 / c ≤ 65536
unit_part a c C h = le_of_suc-le-suc ((div-lt_iff_lt-mul C).1 (omega arith))

both : (a b : Bool) → (not a && b) ≡ true → (a ≡ false) × (b ≡ true)
both true b h = absurd (false≢true h)
both false b h = (refl, h)

pub grid_in_unit : (x : Float) → on_grid x ≡ true → outside_unit x ≡ false
unfolding on_grid
grid_in_unit x h = (both (outside_unit x) (eqb (num x * 65536 % den x) 0) h).0

numerator_is : (x : Float) → on_grid x ≡ true → numerator x ≡ num x * 65536 / den x
unfolding numerator
numerator_is x h = rw h

pub of_grid : (x : Float) → on_grid x ≡ true → (numerator x ≤ 65536) × Is x (numerator x) 65536
unfolding on_grid
of_grid x h =
    let u = in_unit x (grid_in_unit x h) in
    let z = eqb-true (num x * 65536 % den x) 0 (both (outside_unit x) (eqb (num x * 65536 % den x) 0) h).1 in
    rw (numerator_is x h)
    (unit_part (num x) (den x) (den_pos x) u.1, (u.0, exact (num x * 65536) (den x) z))
  where
    exact : (a c : ℕ) → a % c ≡ 0 → a ≡ a / c * c
    exact a c z = omega (arith, div-add-mod' a c)

pub grid_of : (x : Float) (m : ℕ) → m ≤ 65536 → Is x m 65536 → (on_grid x ≡ true) × (numerator x ≡ m)
unfolding on_grid
grid_of x m l v =
    let u : num x ≤ den x = omega (arith, v.1, mul-le-mul_right (den x) l) in
    let o : on_grid x ≡ true = rw (unit_in x v.0 u, v.1, mul-mod_left m (den x)) in
    (o, numerator_is x o ∙ ap (λ (n : ℕ). n / den x) v.1 ∙ mul-div_cancel m (den_pos x))

-- ---- what `numerator_of` finds of a weight in range
-- 65536 x, and its whole part
abbrev pub times_grid : Float → Float
times_grid x = mul binary32 x (fin false 1 (pos 16))

abbrev pub part : Float → ℕ
part x = num x * 65536 / den x

pub outside_off : (x : Float) → outside_unit x ≡ true → None ≡ grid_weight x
unfolding on_grid grid_weight
outside_off x h = rw h

module _ (x : Float) (F : T (fits binary32 x)) (o : outside_unit x ≡ false) where
  is_times_grid : Is (times_grid x) (num x * 65536) (den x)
  is_times_grid = let u = in_unit x o in let d = den_pos x in scaled x 16 F u.0 (omega arith)

  pub part_cut : Cuttable (times_grid x) × (to_unsigned 64 (times_grid x) ≡ part x)
  part_cut = let u = in_unit x o in let d = den_pos x in whole_part (times_grid x) (num x * 65536) (den x) is_times_grid d (omega arith)

  pub part_le : part x ≤ 65536
  part_le = unit_part (num x) (den x) (den_pos x) (in_unit x o).1

  is_part : Is (of_int binary32 (pos (part x))) (part x) 1
  is_part = value→is (of_int binary32 (pos (part x))) (part x) 1 (whole_value (part x) (le_trans part_le (lit≤ tt)))

  -- the part is below 65536 x, so that there is a remainder: x is off the grid
  pub part_below : lt (of_int binary32 (pos (part x))) (times_grid x) ≡ true → None ≡ grid_weight x
  unfolding on_grid grid_weight
  part_below h =
      let l = lt_true (of_int binary32 (pos (part x))) (times_grid x) (part x) 1 (num x * 65536) (den x) (zero-lt-suc 0) (den_pos x) is_part is_times_grid h in
      let e = div-add-mod' (num x * 65536) (den x) in
      rw (o, ne_eqb (num x * 65536 % den x) 0 (λ z. let n : ⊥ = omega arith in n))

  -- else x is on it
  on : lt (of_int binary32 (pos (part x))) (times_grid x) ≡ false → on_grid x ≡ true
  unfolding on_grid
  on h =
      let l = lt_false (of_int binary32 (pos (part x))) (times_grid x) (part x) 1 (num x * 65536) (den x) (zero-lt-suc 0) (den_pos x) is_part is_times_grid h in
      let e = div-add-mod' (num x * 65536) (den x) in
      rw (o, eq-eqb (num x * 65536 % den x) 0 (omega arith))

  pub part_all : lt (of_int binary32 (pos (part x))) (times_grid x) ≡ false → Some (part x) ≡ grid_weight x
  unfolding grid_weight
  part_all h = rw (on h, numerator_is x (on h))

-- ---- what an answer of `numerator_of` says
pub answered_on : (x : Float) (m : ℕ) → Some m ≡ grid_weight x → (on_grid x ≡ true) × (m ≡ numerator x)
unfolding grid_weight
answered_on x m h = go (on_grid x) h
  where
    go : (b : Bool) → Some m ≡ cond b (Some (numerator x)) None → (b ≡ true) × (m ≡ numerator x)
    go true e = (refl, cc)
    go false e = let z : ◌≡◌ {A = ℕ} 0 1 = cc in absurd (omega arith)

pub answered_off : (x : Float) → None ≡ grid_weight x → on_grid x ≡ false
unfolding grid_weight
answered_off x h = go (on_grid x) h
  where
    go : (b : Bool) → None ≡ cond b (Some (numerator x)) None → b ≡ false
    go true e = let z : ◌≡◌ {A = ℕ} 0 1 = cc in absurd (omega arith)
    go false e = refl
