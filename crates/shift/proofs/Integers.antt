-- The shift on integers, as rule 7.2 words it.
use mathlib.Core.Path.{◌≡◌, refl, sym, ap, ◌∙◌}
use mathlib.Core.Bool.{Bool, true, false}
use Prim.Native.Nat.{ℕ, zero, suc, ◌+◌, ◌-◌, ◌<◌}
use native.Mathlib.Omega.{arith}
use lib.Dec.{ltb}
use lib.IntN.{ℤ, pos, sub_ℕ, ◌-ℤ◌}
use borrow.Author.Tests.{ltb-true, ltb-false}
use Rattle.picture.specs.Planes.{Plane}
use Rattle.picture.specs.declared.EdgeMode.TheVariants.{None}
use Rattle.edges.specs.Edges.{value_at, sample}
use Rattle.edges.specs.Whole.{place_of}
use Rattle.edges.proofs.Whole.{from_zero, below_zero, place_is}
use Rattle.binary32.specs.declared.Offset.{Offset}
use Rattle.shift.specs.Shift.{moved, shifted}

-- the whole number that an offset is
abbrev pub whole : Offset → ℤ
whole d = sub_ℕ d.plus d.minus

-- two pairs with one difference are one integer
sub_same : (a b c d : ℕ) → a + d ≡ c + b → sub_ℕ a b ≡ sub_ℕ c d
sub_same a b c d h = by_test (ltb a b) refl
  where
    by_test : (t : Bool) → ltb a b ≡ t → sub_ℕ a b ≡ sub_ℕ c d
    by_test true e = let l = ltb-true a b e in below_zero a b (b - suc a) (omega arith) ∙ sym (below_zero c d (b - suc a) (omega arith))
    by_test false e = let l = ltb-false a b e in from_zero a b (a - b) (omega arith) ∙ sym (from_zero c d (a - b) (omega arith))

minus_pos : (x n : ℕ) → pos x -ℤ pos n ≡ sub_ℕ x n
minus_pos x zero = sym (from_zero x 0 (x + 0) (omega arith))
minus_pos x (suc n) = refl

-- x - d
minus_whole : (x : ℕ) (d : Offset) → pos x -ℤ whole d ≡ sub_ℕ (x + d.minus) d.plus
minus_whole x d = by_test (ltb d.plus d.minus) refl
  where
    by_test : (t : Bool) → ltb d.plus d.minus ≡ t → pos x -ℤ whole d ≡ sub_ℕ (x + d.minus) d.plus
    by_test true e =
        let l = ltb-true d.plus d.minus e in
        let n = d.minus - suc d.plus in
        ap (λ (k : ℤ). pos x -ℤ k) (below_zero d.plus d.minus n (omega arith)) ∙ sym (from_zero (x + d.minus) d.plus (x + suc n) (omega arith))
    by_test false e =
        let l = ltb-false d.plus d.minus e in
        let n = d.plus - d.minus in
        ap (λ (k : ℤ). pos x -ℤ k) (from_zero d.plus d.minus n (omega arith)) ∙ minus_pos x n ∙ sub_same x n (x + d.minus) d.plus (omega arith)

-- output (x, y) is input (x - dx, y - dy) where that lies inside, else 0
pub shifted_is : (dx dy : Offset) (w h : ℕ) (p : Plane) (x y : ℕ) → 0 < w → 0 < h →
    shifted dx dy w h p x y ≡ value_at (place_of None w (pos x -ℤ whole dx)) (λ i. value_at (place_of None h (pos y -ℤ whole dy)) (p i))
unfolding shifted moved sample
shifted_is dx dy w h p x y l m =
    rw (minus_whole x dx, minus_whole y dy, sym (place_is None w (x + dx.minus) dx.plus l), sym (place_is None h (y + dy.minus) dy.plus m))
