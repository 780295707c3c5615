-- Laws of a value as a channel: it is at most 255, grows with the value, and is the rounding of the value capped at 255.0.
use Rattle.std.proofs.Common.{◌≡◌, ℕ, ◌*◌, ◌<◌, ◌≤◌, Bool, true, false, cond, T, ltb, sym, subst, arith, ltb-false, ltb-true}
use lib.Ieee.{Float, lt}
use lib.Ieee.Positive.{num, den, den_pos}
use Rattle.binary32.specs.Ranges.{nonneg}
use Rattle.binary32.specs.Round.{top32, half_up, round_half_up, to_byte}
use Rattle.binary32.specs.Grid.{Is}
use Rattle.binary32.proofs.Halves.{half_up_mono, half_up_same, half_up_le, half_up_ge}
use Rattle.binary32.proofs.Values.{lt_is, Cross}

pub byte_le : (x : Float) → to_byte x ≤ 255
unfolding to_byte
byte_le x = omega arith

pub byte_mono : (x y : Float) → Cross x y → to_byte x ≤ to_byte y
unfolding to_byte round_half_up
byte_mono x y h = omega (arith, half_up_mono (num x) (den x) (num y) (den y) (den_pos x) (den_pos y) h)

-- of a value that equals a / c
pub round_of : (x : Float) (a c : ℕ) → 0 < c → Is x a c → round_half_up x ≡ half_up a c
unfolding round_half_up
round_of x a c C h = half_up_same (num x) (den x) a c (den_pos x) C h.1

-- of the value that `cap` gives
pub capped : (x r : Float) → T (nonneg x) → r ≡ cond (lt x top32) x top32 → (T (nonneg r) × (num r ≤ 255 * den r)) × (round_half_up r ≡ to_byte x)
unfolding to_byte round_half_up
capped x r p e = subst (λ (y : Float). (T (nonneg y) × (num y ≤ 255 * den y)) × (round_half_up y ≡ to_byte x)) (sym e) (go (lt x top32) (lt_is x top32 p tt))
  where
    go : (b : Bool) → b ≡ ltb (num x * 1) (255 * 1 * den x) → (T (nonneg (cond b x top32)) × (num (cond b x top32) ≤ 255 * den (cond b x top32))) × (round_half_up (cond b x top32) ≡ to_byte x)
    go true t =
        let l = ltb-true (num x * 1) (255 * 1 * den x) (sym t) in
        let m : num x ≤ 255 * den x = omega arith in
        ((p, m), omega (arith, half_up_le (num x) (den x) 255 (den_pos x) m))
    go false t =
        let l = ltb-false (num x * 1) (255 * 1 * den x) (sym t) in
        ((tt, omega arith), omega (arith, half_up_ge (num x) (den x) 255 (den_pos x) (omega arith)))
