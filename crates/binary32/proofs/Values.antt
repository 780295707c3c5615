-- Values that are finite and not below 0, each as the fraction `num` / `den`: their order, their sums, differences and products.
use Rattle.std.proofs.Common.{◌≡◌, ℕ, ◌+◌, ◌-◌, ◌*◌, ◌^◌, ◌<◌, ◌≤◌, Bool, true, false, cond, not, ◌&&◌, ◌||◌, T, eqb, ltb, ◌⊎◌, ℤ, pos, sym, refl, ap, ◌∙◌, subst, inl, inr, true≢false, le_of_eq, le_of_lt, zero-lt-suc, mul_assoc, mul_comm, add-mul, mul-le-mul_left, mul-pos, lt_of_not-le, zero-add, zero-mul, mul-one, mul_right_comm, not-le_of_lt, arith, eqb→eq, ltb→lt, ltb-false, ltb-true, le-ltb}
use native.Mathlib.Nat.{mul-sub}
use lib.Ieee.{Float, nan, inf, fin, binary32, up, down, unlike, below, round, neg, sum, add, sub, mul, of_int, le, lt}
use lib.Ieee.Back.{round_whole}
use lib.Ieee.Exact.{HasValue}
use lib.Ieee.Fits.{and_l, down_pos}
use lib.Ieee.Order.{transfer, le_of_values}
use lib.Ieee.Positive.{num, den, den_pos, value→cross}
use lib.Ieee.Scale.{round_same}
use Rattle.binary32.specs.Ranges.{zero32, nonneg}
use Rattle.binary32.specs.Grid.{Is}

-- finite, with no minus sign
abbrev pub plain : Float → Bool
plain nan = false
plain (inf s) = false
plain (fin s m e) = not s

-- what holds of every such value as it is written
pub on_plain : (P : Float → Type 0) → ((m : ℕ) (e : ℤ) → P (fin false m e)) → (x : Float) → T (plain x) → P x
on_plain P f nan p = absurd p
on_plain P f (inf s) p = absurd p
on_plain P f (fin true m e) p = absurd p
on_plain P f (fin false m e) p = f m e

pub on_nonneg : (P : Float → Type 0) → ((s : Bool) (m : ℕ) (e : ℤ) → T (nonneg (fin s m e)) → P (fin s m e)) → (x : Float) → T (nonneg x) → P x
on_nonneg P f nan p = absurd p
on_nonneg P f (inf s) p = absurd p
on_nonneg P f (fin s m e) p = f s m e p

pub plain_nonneg : (x : Float) → T (plain x) → T (nonneg x)
plain_nonneg = on_plain (λ x. T (nonneg x)) (λ m e. tt)

pub plain_of_value : (x : Float) (a c : ℕ) → HasValue x false a c → T (plain x)
plain_of_value nan a c h = absurd h
plain_of_value (inf s) a c h = absurd h
plain_of_value (fin true m e) a c h = absurd (true≢false h.0)
plain_of_value (fin false m e) a c h = tt

pub own_value : (x : Float) → T (plain x) → HasValue x false (num x) (den x)
own_value = on_plain (λ x. HasValue x false (num x) (den x)) (λ m e. (refl, refl))

-- ---- the order
-- a value with a minus sign is zero
pub unsigned : (s : Bool) (m u k : ℕ) → T (not s || eqb m 0) → T s → m * u * k ≡ 0
unsigned true m u k p t = ap (λ (n : ℕ). n * u * k) (eqb→eq m 0 p) ∙ ap (λ (n : ℕ). n * k) (zero-mul u) ∙ zero-mul k
unsigned false m u k p t = absurd t

below_is : (s t : Bool) (a b : ℕ) → (T s → a ≡ 0) → (T t → b ≡ 0) → below s a t b ≡ ltb a b
below_is false false a b f g = refl
below_is false true a b f g = let z = g tt in sym (le-ltb a b (omega arith))
below_is true false a b f g = rw (f tt, zero-add)
below_is true true a b f g = let z = f tt in let y = g tt in le-ltb b a (omega arith) ∙ sym (le-ltb a b (omega arith))

pub lt_is : (x y : Float) → T (nonneg x) → T (nonneg y) → lt x y ≡ ltb (num x * den y) (num y * den x)
unfolding lt
lt_is x y p q =
    on_nonneg (λ x. lt x y ≡ ltb (num x * den y) (num y * den x))
    (λ s m e p. on_nonneg (λ y. lt (fin s m e) y ≡ ltb (m * up e * den y) (num y * down e))
    (λ t n d q. below_is s t (m * up e * down d) (n * up d * down e) (unsigned s m (up e) (down d) p) (unsigned t n (up d) (down e) q)) y q) x p

-- what a test says of values that equal a / c and b / d
module _ (x y : Float) (a c b d : ℕ) (C : 0 < c) (D : 0 < d) (v : Is x a c) (w : Is y b d) where
  pub lt_true : lt x y ≡ true → a * d < b * c
  lt_true h =
      let l = ltb-true (num x * den y) (num y * den x) (sym (lt_is x y v.0 w.0) ∙ h) in
      lt_of_not-le (λ (g : b * c ≤ a * d). not-le_of_lt l (transfer (num y) (num x) (den y) (den x) b a d c D C w.1 v.1 g))

  pub lt_false : lt x y ≡ false → b * c ≤ a * d
  lt_false h =
      transfer b a d c (num y) (num x) (den y) (den x) (den_pos y) (den_pos x) (sym w.1) (sym v.1) (ltb-false (num x * den y) (num y * den x) (sym (lt_is x y v.0 w.0) ∙ h))

-- the order of two fractions
abbrev pub Cross : Float → Float → Type 0
Cross x y = num x * den y ≤ num y * den x

pub cross→le : (x y : Float) → T (plain x) → T (plain y) → Cross x y → T (le x y)
cross→le x y p q h = le_of_values x y (num x) (den x) (num y) (den y) (den_pos x) (den_pos y) (own_value x p) (own_value y q) h

lt_or_eq : (a b : ℕ) (t : Bool) → T (ltb a b || (eqb a b && t)) → a ≤ b
lt_or_eq a b t h = go (ltb a b) (ltb→lt a b) h
  where
    go : (l : Bool) → (T l → a < b) → T (l || (eqb a b && t)) → a ≤ b
    go true f h = le_of_lt (f tt)
    go false f h = le_of_eq (eqb→eq a b (and_l (eqb a b) t h))

pub le→cross : (x y : Float) → T (plain x) → T (plain y) → T (le x y) → Cross x y
unfolding le
le→cross x y p q =
    on_plain (λ x. T (le x y) → Cross x y)
    (λ m e. on_plain (λ y. T (le (fin false m e) y) → Cross (fin false m e) y) (λ n d. lt_or_eq (m * up e * down d) (n * up d * down e) true) y q) x p

-- ---- the sum of two, of which one has no minus sign
sum_is : (s t : Bool) (a b c : ℕ) → (T s → a ≡ 0) → (T t → b ≡ 0) → T (not s) ⊎ T (not t) → sum binary32 s a t b c ≡ round binary32 false (a + b) c
unfolding sum
sum_is false false a b c f g o = refl
sum_is false true a b c f g o = let z = g tt in rw (le-ltb a b (omega arith)) (ap (λ (n : ℕ). round binary32 false n c) (omega arith))
sum_is true false a b c f g o = go (ltb a b) (ltb-false a b)
  where
    go : (l : Bool) → (l ≡ false → b ≤ a) → cond l (round binary32 false (b - a) c) (round binary32 (ltb b a) (a - b) c) ≡ round binary32 false (a + b) c
    go true k = let z = f tt in ap (λ (n : ℕ). round binary32 false n c) (omega arith)
    go false k = let z = f tt in let y = k refl in rw (le-ltb b a (omega arith)) (ap (λ (n : ℕ). round binary32 false n c) (omega arith))
sum_is true true a b c f g (inl o) = absurd o
sum_is true true a b c f g (inr o) = absurd o

pub add_is : (x y : Float) → T (nonneg x) → T (nonneg y) → T (plain x) ⊎ T (plain y) → add binary32 x y ≡ round binary32 false (num x * den y + num y * den x) (den x * den y)
unfolding add
add_is x y p q =
    on_nonneg (λ x. T (plain x) ⊎ T (plain y) → add binary32 x y ≡ round binary32 false (num x * den y + num y * den x) (den x * den y))
    (λ s m e p. on_nonneg (λ y. T (not s) ⊎ T (plain y) → add binary32 (fin s m e) y ≡ round binary32 false (m * up e * den y + num y * down e) (down e * den y))
    (λ t n d q. sum_is s t (m * up e * down d) (n * up d * down e) (down e * down d) (unsigned s m (up e) (down d) p) (unsigned t n (up d) (down e) q)) y q) x p

-- by any fractions with one divisor that they equal
pub add_at : (x y : Float) (a b c : ℕ) → 0 < c → Is x a c → Is y b c → T (plain x) ⊎ T (plain y) → add binary32 x y ≡ round binary32 false (a + b) c
add_at x y a b c C v w o =
    add_is x y v.0 w.0 o
    ∙ round_same binary32 false (num x * den y + num y * den x) (den x * den y) (a + b) c (mul-pos (den_pos x) (den_pos y)) C (joined (num x) (den x) (num y) (den y) v.1 w.1)
  where
    joined : (x dx y dy : ℕ) → x * c ≡ a * dx → y * c ≡ b * dy → (x * dy + y * dx) * c ≡ (a + b) * (dx * dy)
    joined x dx y dy h k =
        let p : x * dy * c ≡ a * (dx * dy) = mul_right_comm x dy c ∙ ap (λ (z : ℕ). z * dy) h ∙ mul_assoc a dx dy in
        let q : y * dx * c ≡ b * (dx * dy) = mul_right_comm y dx c ∙ ap (λ (z : ℕ). z * dx) k ∙ simp (mul_assoc, mul_comm) in
        add-mul (x * dy) (y * dx) c ∙ (rw (p, q) (sym (add-mul a b (dx * dy))))

-- ---- x - y for a y that is no larger
pub sub_is : (x y : Float) → T (plain x) → T (plain y) → Cross y x → sub binary32 x y ≡ round binary32 false (num x * den y - num y * den x) (den x * den y)
unfolding sub add neg sum
sub_is x y p q =
    on_plain (λ x. Cross y x → sub binary32 x y ≡ round binary32 false (num x * den y - num y * den x) (den x * den y))
    (λ m e. on_plain (λ y. Cross y (fin false m e) → sub binary32 (fin false m e) y ≡ round binary32 false (m * up e * den y - num y * down e) (down e * den y))
    (λ n d h. rw (le-ltb (m * up e * down d) (n * up d * down e) h)) y q) x p

-- ---- the product
zero_one : (s : Bool) → round binary32 s 0 1 ≡ fin s 0 (pos 0)
unfolding round
zero_one true = refl
zero_one false = refl

pub round_zero : (s : Bool) (a c : ℕ) → 0 < c → a ≡ 0 → round binary32 s a c ≡ fin s 0 (pos 0)
round_zero s a c C z = round_same binary32 s a c 0 1 C (zero-lt-suc 0) (mul-one a ∙ z ∙ sym (zero-mul c)) ∙ zero_one s

-- the same, but that one may be -0 where the other is +0
abbrev pub Alike : Float → Float → Type 0
Alike x y = (x ≡ y) ⊎ ((x ≡ fin true 0 (pos 0)) × (y ≡ zero32))

alike : (s t : Bool) (a c : ℕ) → 0 < c → (T s → a ≡ 0) → (T t → a ≡ 0) → Alike (round binary32 (unlike s t) a c) (round binary32 false a c)
alike false false a c C f g = inl refl
alike true true a c C f g = inl refl
alike true false a c C f g = inr (round_zero true a c C (f tt), round_zero false a c C (f tt))
alike false true a c C f g = inr (round_zero true a c C (g tt), round_zero false a c C (g tt))

pub mul_is : (x y : Float) → T (nonneg x) → T (nonneg y) → Alike (mul binary32 x y) (round binary32 false (num x * num y) (den x * den y))
unfolding mul
mul_is x y p q =
    on_nonneg (λ x. Alike (mul binary32 x y) (round binary32 false (num x * num y) (den x * den y)))
    (λ s m e p. on_nonneg (λ y. Alike (mul binary32 (fin s m e) y) (round binary32 false (m * up e * num y) (down e * den y)))
    (λ t n d q. alike s t (m * up e * (n * up d)) (down e * down d) (mul-pos (down_pos e) (down_pos d)) (unsigned s m (up e) (n * up d) p)
    (λ h. mul_comm (m * up e) (n * up d) ∙ unsigned t n (up d) (m * up e) q h)) y q) x p

pub alike_is : (x y : Float) (a c : ℕ) → Alike x y → Is y a c → Is x a c
alike_is x y a c (inl e) h = subst (λ (z : Float). Is z a c) (sym e) h
alike_is x y a c (inr e) h = subst (λ (z : Float). Is z a c) (sym e.0) (tt, (subst (λ (z : Float). Is z a c) e.1 h).1)

pub add_alike : (x y z : Float) → T (plain x) → Alike y z → add binary32 x y ≡ add binary32 x z
add_alike x y z p (inl e) = ap (add binary32 x) e
add_alike x y z p (inr e) =
    let q = plain_nonneg x p in
    ap (add binary32 x) e.0 ∙ add_is x (fin true 0 (pos 0)) q tt (inl p) ∙ sym (add_is x zero32 q tt (inl p)) ∙ ap (add binary32 x) (sym e.1)

pub value→is : (x : Float) (a c : ℕ) → HasValue x false a c → Is x a c
value→is x a c h = (plain_nonneg x (plain_of_value x a c h), value→cross x a c h)

-- ---- a whole number less another one
pub whole_less : (x y : Float) (a b : ℕ) → HasValue x false a 1 → HasValue y false b 1 → b ≤ a → a - b ≤ 2 ^ 24 → HasValue (sub binary32 x y) false (a - b) 1
whole_less x y a b v w l h =
    let D = den x * den y in
    let top : num x * den y ≡ D * a = ap (λ (n : ℕ). n * den y) (sym (mul-one (num x)) ∙ value→cross x a 1 v) ∙ mul_assoc a (den x) (den y) ∙ mul_comm a D in
    let bottom : num y * den x ≡ D * b = ap (λ (n : ℕ). n * den x) (sym (mul-one (num y)) ∙ value→cross y b 1 w) ∙ mul_right_comm b (den y) (den x) ∙ mul_assoc b (den x) (den y) ∙ mul_comm b D in
    rw (sub_is x y (plain_of_value x a 1 v) (plain_of_value y b 1 w) (rw (top, bottom) (mul-le-mul_left D l)), top, bottom)
    (rw (round_same binary32 false (D * a - D * b) D (a - b) 1 (mul-pos (den_pos x) (den_pos y)) (zero-lt-suc 0) (mul-one (D * a - D * b) ∙ sym (mul-sub D a b) ∙ mul_comm D (a - b)))
    (round_whole binary32 false (a - b) h))

-- ---- a whole number as a float: what `p as f32` means in a contract
pub whole_value : (p : ℕ) → p ≤ 2 ^ 24 → HasValue (of_int binary32 (pos p)) false p 1
unfolding of_int
whole_value p h = round_whole binary32 false p h
