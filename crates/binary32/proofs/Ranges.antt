-- Laws of the ranges: what the code's tests say of them, and what a value in range is.
use Rattle.std.proofs.Common.{◌≡◌, ℕ, zero, suc, ◌+◌, ◌*◌, ◌<◌, ◌≤◌, Bool, true, false, ◌||◌, T, List, [], ◌∷◌, length, get_or, drop, ℤ, sym, refl, ◌∙◌, true≢false, le_of_suc-le-suc, not-suc-le-zero, le-mul_of_pos_right, add-one, arith, drop-cons, ltb-false, le-ltb, eq-eqb}
use lib.Ieee.{Float, nan, inf, fin, is_nan, lt, ne, up, down}
use lib.Ieee.Fits.{up_pos, eq→eqb}
use lib.Ieee.Positive.{num, den}
use Rattle.std.specs.Float.{float_is_finite}
use Rattle.binary32.specs.Ranges.{zero32, one32, finite, outside_unit, any_of, nonneg}
use Rattle.binary32.proofs.Values.{on_nonneg, lt_is}

-- ---- finite
pub finite_is : (x : Float) → float_is_finite x ≡ finite x
unfolding float_is_finite finite
finite_is nan = refl
finite_is (inf s) = refl
finite_is (fin s m e) = refl

-- ---- from 0 to 1
pub ne_self : (x : Float) → ne x x ≡ is_nan x
unfolding ne is_nan
ne_self nan = refl
ne_self (inf true) = refl
ne_self (inf false) = refl
ne_self (fin true m e) = rw (eq-eqb (m * up e * down e) (m * up e * down e) refl)
ne_self (fin false m e) = rw (eq-eqb (m * up e * down e) (m * up e * down e) refl)

pub not_below : (s : Bool) (m : ℕ) (e : ℤ) → lt (fin s m e) zero32 ≡ false → T (nonneg (fin s m e))
unfolding lt
not_below false m e h = tt
not_below true m e h = eq→eqb {a = m} {b = 0} (omega (arith, ltb-false 0 (m * up e * 1 + 0 * 1 * down e) h, le-mul_of_pos_right m (up_pos e)))

pub neither : (a b : Bool) → (a || b) ≡ false → (a ≡ false) × (b ≡ false)
neither true b h = absurd (true≢false h)
neither false b h = (refl, h)

pub in_unit : (x : Float) → outside_unit x ≡ false → T (nonneg x) × (num x ≤ den x)
unfolding outside_unit is_nan lt
in_unit nan h = absurd (true≢false h)
in_unit (inf true) h = absurd (true≢false h)
in_unit (inf false) h = absurd (true≢false h)
in_unit (fin s m e) h =
    let n = neither (lt (fin s m e) zero32) (lt one32 (fin s m e)) h in
    let p = not_below s m e n.0 in
    (p, omega (arith, ltb-false (1 * 1 * down e) (m * up e * 1) (sym (lt_is one32 (fin s m e) tt p) ∙ n.1)))

pub unit_in : (x : Float) → T (nonneg x) → num x ≤ den x → outside_unit x ≡ false
unfolding outside_unit is_nan
unit_in =
    on_nonneg (λ x. num x ≤ den x → outside_unit x ≡ false)
    (λ s m e p h. rw (lt_is (fin s m e) zero32 p tt, lt_is one32 (fin s m e) tt p, le-ltb (m * up e * 1) (0 * 1 * down e) (omega arith), le-ltb (1 * 1 * down e) (m * up e * 1) (omega arith)))

-- ---- a list
pub any_step : (f : Float → Bool) (l : List Float) (i : ℕ) → i < length l → any_of f (drop i l) ≡ (f (get_or l i nan) || any_of f (drop (i + 1) l))
unfolding any_of
any_step f l i h = rw (add-one, drop-cons l i nan)

pub none_of : (f : Float → Bool) (l : List Float) → any_of f l ≡ false → (j : ℕ) → j < length l → f (get_or l j nan) ≡ false
unfolding any_of
none_of f [] h j k = absurd (not-suc-le-zero k)
none_of f (x ∷ l) h zero k = (neither (f x) (any_of f l) h).0
none_of f (x ∷ l) h (suc j) k = none_of f l (neither (f x) (any_of f l) h).1 j (le_of_suc-le-suc k)
