-- Values held between two steps of a grid. A rounding does not cross a step, since each step is a value of the format.
use mathlib.Core.Path.{◌≡◌, refl, sym, ap, ◌∙◌}
use mathlib.Core.Logic.{inl}
use mathlib.Core.Bool.{true, false}
use Prim.Native.Nat.{ℕ, ◌+◌, ◌-◌, ◌*◌, ◌^◌, ◌≤◌, ◌<◌}
use native.Mathlib.Nat.{le_trans, le_of_eq, le_of_lt, le_antisymm, sub-le, lt_of_lt_of_le, lt_of_le_of_lt, le-mul_of_pos_right, le_of_mul-le-mul_right, add-le-add, mul-one, one-mul, mul_comm, mul_assoc, mul_left_comm, mul-mul-mul_comm, mul-sub, add-mul, mul-pos, mul-le-mul, mul-le-mul_right, mul-lt-mul_of_pos_right}
use native.Mathlib.Omega.{arith}
use lib.Dec.{T}
use lib.Pow.{pow_pos}
use lib.Ieee.{Float, nan, inf, fin, binary32, round, add, sub, mul}
use lib.Ieee.Exact.{HasValue, round_exact}
use lib.Ieee.Order.{round_mono}
use lib.Ieee.Positive.{num, den, den_pos, value→cross, through}
use Rattle.binary32.specs.Ranges.{one32}
use Rattle.binary32.specs.Round.{half_up, round_half_up}
use Rattle.binary32.proofs.Halves.{half_up_mono}
use Rattle.binary32.proofs.Values.{plain, plain_nonneg, plain_of_value, le→cross, add_is, sub_is}
use Rattle.binary32.proofs.Rounded.{rounded}

-- ---- the order of fractions: a / c ≤ b / d, and what keeps it
pub record Leq (a c b d : ℕ) : Type 0 where
  pub le : a * d ≤ b * c

leq_trans : {a c b d e f : ℕ} → 0 < d → Leq a c b d → Leq b d e f → Leq a c e f
leq_trans {a} {c} {b} {d} {e} {f} D h k = record { le = through a b e c d f D h.le k.le }

module _ {a c b d : ℕ} (h : Leq a c b d) where
  leq_minus : Leq (d - b) d (c - a) c
  leq_minus = record { le = omega (arith, h.le, mul_comm (d - b) c, mul-sub c d b, mul_comm (c - a) d, mul-sub d c a, mul_comm c d, mul_comm c b, mul_comm d a) }

  module _ {a' c' b' d' : ℕ} (k : Leq a' c' b' d') where
    leq_times : Leq (a * a') (c * c') (b * b') (d * d')
    leq_times = record { le = le_trans (le_of_eq (mul-mul-mul_comm a a' d d')) (le_trans (mul-le-mul h.le k.le) (le_of_eq (mul-mul-mul_comm b c b' c'))) }

    leq_plus : Leq (a * c' + a' * c) (c * c') (b * d' + b' * d) (d * d')
    leq_plus =
        let p : a * c' * (d * d') ≤ b * d' * (c * c') = simp (mul_assoc, mul_comm, mul_left_comm) (simp (mul_assoc, mul_comm, mul_left_comm) at (mul-le-mul_right (c' * d') h.le)) in
        let q : a' * c * (d * d') ≤ b' * d * (c * c') = simp (mul_assoc, mul_comm, mul_left_comm) (simp (mul_assoc, mul_comm, mul_left_comm) at (mul-le-mul_right (c * d) k.le)) in
        record { le = le_trans (le_of_eq (add-mul (a * c') (a' * c) (d * d'))) (le_trans (add-le-add p q) (le_of_eq (sym (add-mul (b * d') (b' * d) (c * c'))))) }

-- ---- a grid of steps 1 / g: each step below 2 ^ 24 is a value of the format
pub record Grid (g : ℕ) : Type 0 where
  pub step : 0 < g
  pub digits : ℕ
  pub whole : 2 ^ digits * g ≡ 2 ^ 149
  pub room : 2 ^ 24 * 2 ^ digits ≤ 2 ^ 277

on_grid_lem : (g m : ℕ) → Grid g → m < 2 ^ 24 → HasValue (round binary32 false m g) false m g
on_grid_lem g m G h =
    let k = G.digits in
    round_exact binary32 false m g m k G.step h (lt_of_lt_of_le (mul-lt-mul_of_pos_right h (pow_pos k)) G.room)
    (ap (λ (n : ℕ). m * n) (sym G.whole) ∙ sym (mul_assoc m (2 ^ k) g))

-- finite, with no minus sign, and lo / g ≤ x ≤ hi / g
pub record Between (g : ℕ) (x : Float) (lo hi : ℕ) : Type 0 where
  pub flat : T (plain x)
  pub above : Leq lo g (num x) (den x)
  pub below : Leq (num x) (den x) hi g

pub held : {g : ℕ} (G : Grid g) (a c lo hi : ℕ) → 0 < c → hi < 2 ^ 24 → Leq lo g a c → Leq a c hi g → Between g (round binary32 false a c) lo hi
held {g} G a c lo hi C H l h =
    let z = round binary32 false a c in
    let u = round binary32 false lo g in
    let v = round binary32 false hi g in
    let p = (rounded a c hi C (le_of_lt H) (le_trans (le-mul_of_pos_right a G.step) h.le)).0 in
    let su = on_grid_lem g lo G (lt_of_le_of_lt (le_of_mul-le-mul_right (leq_trans C l h).le G.step) H) in
    let sv = on_grid_lem g hi G H in
    record {
      flat = p;
      above = record { le = through lo (num u) (num z) g (den u) (den z) (den_pos u) (le_of_eq (sym (value→cross u lo g su))) (le→cross u z (plain_of_value u lo g su) p (round_mono binary32 lo g a c G.step C l.le)) };
      below = record { le = through (num z) (num v) hi (den z) (den v) g (den_pos v) (le→cross z v p (plain_of_value v hi g sv) (round_mono binary32 a c hi g C G.step h.le)) (le_of_eq (value→cross v hi g sv)) };
    }

-- ---- 1 - x, x * y and x + y
one_minus_is : (x : Float) → T (plain x) → num x ≤ den x → sub binary32 one32 x ≡ round binary32 false (den x - num x) (den x)
one_minus_is x p h = let law = sub_is one32 x tt p (rw (one-mul (den x), mul-one (num x)) h) in rw (one-mul (den x), mul-one (num x)) at law

mul_plain : (x y : Float) → T (plain x) → T (plain y) → mul binary32 x y ≡ round binary32 false (num x * num y) (den x * den y)
unfolding mul
mul_plain nan y p q = absurd p
mul_plain (inf s) y p q = absurd p
mul_plain (fin true m e) y p q = absurd p
mul_plain (fin false m e) nan p q = absurd q
mul_plain (fin false m e) (inf t) p q = absurd q
mul_plain (fin false m e) (fin true n d) p q = absurd q
mul_plain (fin false m e) (fin false n d) p q = refl

module _ {x : Float} {g lx hx : ℕ} (v : Between g x lx hx) where
  pub sub_between : (G : Grid g) → hx ≤ g → g < 2 ^ 24 → Between g (sub binary32 one32 x) (g - hx) (g - lx)
  sub_between G H R =
      let under : num x ≤ den x = le_of_mul-le-mul_right (le_trans v.below.le (le_trans (mul-le-mul_right (den x) H) (le_of_eq (mul_comm g (den x))))) G.step in
      rw (one_minus_is x v.flat under)
      (held G (den x - num x) (den x) (g - hx) (g - lx) (den_pos x) (lt_of_le_of_lt (sub-le g lx) R) (leq_minus v.below) (leq_minus v.above))

  module _ {y : Float} {g' ly hy : ℕ} (w : Between g' y ly hy) where
    pub mul_between : {g'' : ℕ} (G : Grid g'') (l h : ℕ) → 0 < g * g' → h < 2 ^ 24 → Leq l g'' (lx * ly) (g * g') → Leq (hx * hy) (g * g') h g'' → Between g'' (mul binary32 x y) l h
    mul_between G l h P H a b =
        rw (mul_plain x y v.flat w.flat)
        (held G (num x * num y) (den x * den y) l h (mul-pos (den_pos x) (den_pos y)) H (leq_trans P a (leq_times v.above w.above)) (leq_trans P (leq_times v.below w.below) b))

  module _ {y : Float} {ly hy : ℕ} (w : Between g y ly hy) where
    pub add_between : (G : Grid g) → hx + hy < 2 ^ 24 → Between g (add binary32 x y) (lx + ly) (hx + hy)
    add_between G H =
        let P = mul-pos G.step G.step in
        rw (add_is x y (plain_nonneg x v.flat) (plain_nonneg y w.flat) (inl v.flat))
        (held G (num x * den y + num y * den x) (den x * den y) (lx + ly) (hx + hy) (mul-pos (den_pos x) (den_pos y)) H
        (leq_trans P (record { le = le_of_eq (common lx ly) }) (leq_plus v.above w.above))
        (leq_trans P (leq_plus v.below w.below) (record { le = le_of_eq (sym (common hx hy)) })))
      where
        common : (a b : ℕ) → (a + b) * (g * g) ≡ (a * g + b * g) * g
        common a b = sym (ap (λ (n : ℕ). n * g) (sym (add-mul a b g)) ∙ mul_assoc (a + b) g g)

-- the whole number that both ends round to
pub settled : {g : ℕ} {x : Float} {lo hi : ℕ} (q : ℕ) → 0 < g → Between g x lo hi → q ≤ half_up lo g → half_up hi g ≤ q → round_half_up x ≡ q
unfolding round_half_up
settled {g} {x} {lo} {hi} q G v a b =
    le_antisymm (le_trans (half_up_mono (num x) (den x) hi g (den_pos x) G v.below.le) b) (le_trans a (half_up_mono lo g (num x) (den x) G (den_pos x) v.above.le))
