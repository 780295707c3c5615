-- Values from 0 to 1: a byte over 255, and the products that are rounded to a byte again.
use mathlib.Core.Path.{◌≡◌, refl, ap, ◌∙◌}
use mathlib.Core.Logic.{inl, inr}
use mathlib.Core.Bool.{Bool, true, false, cond}
use Prim.Native.Nat.{ℕ, ◌+◌, ◌*◌, ◌/◌, ◌^◌, ◌≤◌}
use native.Mathlib.Nat.{zero-lt-suc, le_refl, le_trans, le_of_eq, mul_comm, mul_assoc, mul-mul-mul_comm, mul-pos, mul-le-mul}
use native.Mathlib.Omega.{arith}
use lib.Dec.{T, lit≤}
use lib.IntN.{pos}
use lib.Ieee.{Float, nan, inf, fin, binary32, round, mul, div, of_int, lt}
use lib.Ieee.Positive.{num, den, den_pos, value→cross}
use lib.Ieee.Scale.{round_same}
use Rattle.binary32.specs.Ranges.{one32, outside_unit, nonneg}
use Rattle.binary32.specs.Round.{top32}
use Rattle.binary32.proofs.Ranges.{in_unit}
use Rattle.binary32.proofs.Rounded.{AtMost, rounded}
use Rattle.binary32.proofs.Values.{plain, plain_nonneg, plain_of_value, Alike, mul_is, whole_value}
use Rattle.composite.specs.Channels.{norm, at_most_one}
use Rattle.composite.proofs.Between.{Grid, Between, held}

-- ---- a byte over 255
norm_is : (p : ℕ) → p ≤ 255 → norm p ≡ round binary32 false p 255
unfolding norm div
norm_is p h =
    let x = of_int binary32 (pos p) in
    let v = whole_value p (le_trans h (lit≤ tt)) in
    opened x (plain_of_value x p 1 v)
    ∙ round_same binary32 false (num x * 1) (255 * den x) p 255 (mul-pos (zero-lt-suc 254) (den_pos x)) (zero-lt-suc 254)
    (ap (λ (n : ℕ). n * 255) (value→cross x p 1 v) ∙ mul_assoc p (den x) 255 ∙ ap (λ (n : ℕ). p * n) (mul_comm (den x) 255))
  where
    opened : (x : Float) → T (plain x) → div binary32 x top32 ≡ round binary32 false (num x * 1) (255 * den x)
    opened nan p = absurd p
    opened (inf s) p = absurd p
    opened (fin true m e) p = absurd p
    opened (fin false m e) p = refl

-- the grid of 2 ^ -22: steps below and above it
pub fine : Grid 4194304
fine = record { step = zero-lt-suc 4194303; digits = 127; whole = refl; room = lit≤ tt }

abbrev pub lo : ℕ → ℕ
lo p = p * 4194304 / 255

abbrev pub hi : ℕ → ℕ
hi p = (p * 4194304 + 254) / 255

pub norm_in : (p : ℕ) → p ≤ 255 → Between 4194304 (norm p) (lo p) (hi p)
norm_in p h = rw (norm_is p h) (held fine p 255 (lo p) (hi p) (zero-lt-suc 254) (omega arith) (record { le = omega arith }) (record { le = omega arith }))

-- ---- products: not below 0, and bounded; a zero may have a minus sign
abbrev Most : Float → ℕ → Type 0
Most x n = T (nonneg x) × (num x ≤ n * den x)

plain_most : (x : Float) (n : ℕ) → AtMost x n → Most x n
plain_most x n A = (plain_nonneg x A.0, A.1)

product : (x y : Float) (n m : ℕ) → n * m ≤ 2 ^ 24 → Most x n → Most y m → Most (mul binary32 x y) (n * m)
product x y n m N u v =
    by (mul binary32 x y) (round binary32 false (num x * num y) (den x * den y)) (mul_is x y u.0 v.0)
    (rounded _ _ (n * m) (mul-pos (den_pos x) (den_pos y)) N (le_trans (mul-le-mul u.1 v.1) (le_of_eq (mul-mul-mul_comm n (den x) m (den y)))))
  where
    by : (z r : Float) → Alike z r → AtMost r (n * m) → Most z (n * m)
    by z r (inl e) A = rw e (plain_most r (n * m) A)
    by z r (inr e) A = rw e.0 (tt, omega arith)

-- what `norm_to_u8` asks, of a value from 0 to 1
byte_asks : (x : Float) → Most x 1 → T (nonneg (mul binary32 x top32))
byte_asks x u = (product x top32 1 255 (lit≤ tt) u (tt, le_refl 255)).0

unit : (x : Float) → outside_unit x ≡ false → Most x 1
unit x o = let u = in_unit x o in (u.0, omega (arith, u.1))

-- .. of a colour's component, and of the shadow's alpha
pub component_asks : (x : Float) → outside_unit x ≡ false → T (nonneg (mul binary32 x top32))
component_asks x o = byte_asks x (unit x o)

pub alpha_asks : (a : ℕ) (alpha : Float) → a ≤ 255 → outside_unit alpha ≡ false → T (nonneg (mul binary32 (at_most_one (mul binary32 (norm a) alpha)) top32))
unfolding at_most_one
alpha_asks a alpha h o =
    let m : Most (norm a) 1 = rw (norm_is a h) (plain_most (round binary32 false a 255) 1 (rounded a 255 1 (zero-lt-suc 254) (lit≤ tt) (omega arith))) in
    let x = mul binary32 (norm a) alpha in
    byte_asks (cond (lt x one32) x one32) (least x (product (norm a) alpha 1 1 (lit≤ tt) m (unit alpha o)) (lt x one32))
  where
    least : (x : Float) → Most x 1 → (b : Bool) → Most (cond b x one32) 1
    least x u true = u
    least x u false = (tt, le_refl 1)
