-- Laws of whole offsets: one held to a bound is the rounded offset held to it, and what the code's tests say of an offset's size.
use Rattle.std.proofs.Common.{◌≡◌, ℕ, ◌+◌, ◌*◌, ◌/◌, ◌<◌, ◌≤◌, min, true, false, T, pos, sym, refl, ap, ◌∙◌, true≢false, le_trans, mul_comm, arith, ltb-false, ltb-true, le-ltb}
use mathlib.Core.Bool.{false≢true}
use native.Mathlib.Nat.{min-zero, min-eq_left}
use lib.Arith.{le-zero}
use lib.Ieee.{Float, nan, inf, fin, binary32, up, down, fits, neg, mul, lt, ne, is_nan, to_unsigned}
use lib.Ieee.Fits.{down_pos}
use lib.Ieee.Positive.{num, den, den_pos}
use Rattle.binary32.specs.Ranges.{zero32, finite, nonneg}
use Rattle.binary32.specs.Round.{half_up, round_half_up, signed_steps, whole_offset, held_size, round_offset}
use Rattle.binary32.specs.declared.Offset.{Offset}
use Rattle.binary32.proofs.Halves.{half_up_le, half_up_ge, half_up_cut}
use Rattle.binary32.proofs.Values.{on_nonneg, unsigned, lt_is}
use Rattle.binary32.proofs.Ranges.{not_below, ne_self}
use Rattle.binary32.proofs.Scaled.{scaled, Cuttable, whole_part}

-- an offset held to at most the bound either way
abbrev pub held : ℕ → Offset → Offset
held bound o = record { plus = min bound o.plus; minus = min bound o.minus }

pub round_offset_held : (bound : ℕ) (x : Float) → finite x ≡ true → round_offset bound x ≡ held bound (whole_offset x)
unfolding finite round_offset held_size whole_offset
round_offset_held bound nan h = absurd (false≢true h)
round_offset_held bound (inf s) h = absurd (false≢true h)
round_offset_held bound (fin true m e) h = rw min-zero
round_offset_held bound (fin false m e) h = rw min-zero

-- ---- the size of an x that is not below 0
-- below 2 ^ 32: what the cut of twice x asks, and what it gives
below : (x : Float) → lt x zero32 ≡ false → lt x (fin false 1 (pos 32)) ≡ true → T (nonneg x) × (num x < 4294967296 * den x)
unfolding lt
below nan h l = absurd (false≢true l)
below (inf true) h l = absurd (true≢false h)
below (inf false) h l = absurd (false≢true l)
below (fin s m e) h l =
    let p = not_below s m e h in
    (p, omega (arith, ltb-true (m * up e * 1) (4294967296 * down e) (sym (lt_is (fin s m e) (fin false 1 (pos 32)) p tt) ∙ l)))

size_of : (bound : ℕ) (x : Float) → T (nonneg x) → held_size bound x ≡ min bound (round_half_up x)
unfolding held_size
size_of bound = on_nonneg (λ x. held_size bound x ≡ min bound (round_half_up x)) (λ s m e p. refl)

module _ (x : Float) (F : T (fits binary32 x)) (h : lt x zero32 ≡ false) (l : lt x (fin false 1 (pos 32)) ≡ true) where
  abbrev double : Float
  double = mul binary32 x (fin false 1 (pos 1))

  part : Cuttable double × (to_unsigned 64 double ≡ num x * 2 / den x)
  part = let b = (below x h l).1 in whole_part double (num x * 2) (den x) (scaled x 1 F (below x h l).0 (omega arith)) (den_pos x) (omega arith)

  pub cut_asks : Cuttable double
  cut_asks = part.0

  pub cut_gives : (bound : ℕ) → (to_unsigned 64 double ≤ 8589934592) × (min bound ((to_unsigned 64 double + 1) / 2) ≡ held_size bound x)
  unfolding round_half_up
  cut_gives bound =
      let b = below x h l in
      let e : (to_unsigned 64 double + 1) / 2 ≡ round_half_up x = ap (λ (n : ℕ). (n + 1) / 2) (part.1 ∙ ap (λ (n : ℕ). n / den x) (mul_comm (num x) 2)) ∙ half_up_cut (num x) (den x) (den_pos x) in
      let k = half_up_le (num x) (den x) 4294967296 (den_pos x) (omega arith) in
      (omega arith, ap (λ (n : ℕ). min bound n) e ∙ sym (size_of bound x b.0))

-- from 2 ^ 32 on, unless it is a NaN
pub beyond : (bound : ℕ) (x : Float) → bound ≤ 4294967296 → lt x zero32 ≡ false → lt x (fin false 1 (pos 32)) ≡ false → ne x x ≡ false → bound ≡ held_size bound x
unfolding lt held_size round_half_up is_nan
beyond bound nan b h l n = absurd (true≢false (sym (ne_self nan) ∙ n))
beyond bound (inf true) b h l n = absurd (true≢false h)
beyond bound (inf false) b h l n = refl
beyond bound (fin s m e) b h l n =
    let f = ltb-false (m * up e * 1) (4294967296 * down e) (sym (lt_is (fin s m e) (fin false 1 (pos 32)) (not_below s m e h) tt) ∙ l) in
    let g = half_up_ge (m * up e) (down e) 4294967296 (down_pos e) (omega arith) in
    sym (min-eq_left (le_trans b g))

-- ---- the two signs
pub forward : (bound : ℕ) (x : Float) → lt x zero32 ≡ false → signed_steps false (held_size bound x) ≡ round_offset bound x
unfolding lt round_offset held_size round_half_up
forward bound nan h = refl
forward bound (inf true) h = absurd (true≢false h)
forward bound (inf false) h = refl
forward bound (fin false m e) h = refl
forward bound (fin true m e) h =
    let z : m * up e * 1 ≡ 0 = unsigned true m (up e) 1 (not_below true m e h) tt in
    let n : half_up (m * up e) (down e) ≡ 0 = le-zero (half_up_le (m * up e) (down e) 0 (down_pos e) (omega arith)) in
    rw (n, min-zero)

pub backward : (bound : ℕ) (x : Float) → lt x zero32 ≡ true → (lt (neg x) zero32 ≡ false) × (signed_steps true (held_size bound (neg x)) ≡ round_offset bound x)
unfolding lt neg round_offset held_size round_half_up
backward bound nan h = absurd (false≢true h)
backward bound (inf true) h = (refl, refl)
backward bound (inf false) h = absurd (false≢true h)
backward bound (fin true m e) h = (le-ltb (m * up e * 1) (0 * 1 * down e) (omega arith), refl)
backward bound (fin false m e) h = absurd (let l = ltb-true (m * up e * 1) (0 * 1 * down e) h in omega arith)
