-- A fraction rounded to binary32: how large it is, and where it is exact.
use Rattle.std.proofs.Common.{ℕ, zero, suc, ◌*◌, ◌^◌, ◌<◌, ◌≤◌, Bool, true, false, cond, not, T, ltb, sym, refl, le_trans, le_of_eq, lt_of_lt_of_le, zero-lt-suc, mul_assoc, mul-lt-mul_of_pos_right, mul-one, lit≤, pow_pos}
use lib.Ieee.{Float, nan, inf, fin, binary32, units, odd, round, le}
use lib.Ieee.Back.{round_whole}
use lib.Ieee.Exact.{HasValue, round_exact}
use lib.Ieee.Fits.{round_is}
use lib.Ieee.Order.{transfer, round_mono}
use lib.Ieee.Positive.{num, den, den_pos, value→cross}
use Rattle.binary32.proofs.Values.{plain, plain_of_value, le→cross}

-- ---- it has no minus sign, and is finite and at most n where the fraction is
abbrev unminus : Float → Bool
unminus nan = false
unminus (inf s) = not s
unminus (fin s m e) = not s

odd_unminus : (d q k l : ℕ) → T (unminus (odd d false q k l))
unfolding odd
odd_unminus d zero k l = tt
odd_unminus d (suc q) k l = tt

units_unminus : (q k : ℕ) → T (unminus (units binary32 false q k))
unfolding units
units_unminus q k = go (ltb (q * 2 ^ k) (2 ^ 277))
  where
    go : (b : Bool) → T (unminus (cond b (odd 25 false q k 149) (inf false)))
    go true = odd_unminus 25 q k 149
    go false = tt

under : (z hi : Float) → T (unminus z) → T (plain hi) → T (le z hi) → T (plain z)
unfolding le
under nan hi u p h = absurd u
under (inf true) hi u p h = absurd u
under (inf false) nan u p h = absurd p
under (inf false) (inf t) u p h = absurd p
under (inf false) (fin t n d) u p h = absurd h
under (fin s m e) hi u p h = u

-- finite, with no minus sign, and at most n
abbrev pub AtMost : Float → ℕ → Type 0
AtMost z n = T (plain z) × (num z ≤ n * den z)

pub rounded : (a c n : ℕ) → 0 < c → n ≤ 2 ^ 24 → a ≤ n * c → AtMost (round binary32 false a c) n
rounded a c n C N h =
    let z = round binary32 false a c in
    let hi = round binary32 false n 1 in
    let v = round_whole binary32 false n N in
    let q = plain_of_value hi n 1 v in
    let l : T (le z hi) = round_mono binary32 a c n 1 C (zero-lt-suc 0) (le_trans (le_of_eq (mul-one a)) h) in
    let p : T (plain z) = under z hi (rw (round_is binary32 false a c) (units_unminus _ _)) q l in
    (p, le_trans (le_of_eq (sym (mul-one (num z)))) (transfer (num z) n (den z) 1 (num z) (num hi) (den z) (den hi) (den_pos z) (den_pos hi) refl (sym (value→cross hi n 1 v)) (le→cross z hi p q l)))

-- ---- on the grid of 1 / 65536 it is exact, up to 256
pub grid_exact : (n : ℕ) → n < 2 ^ 24 → HasValue (round binary32 false n 65536) false n 65536
grid_exact n h = round_exact binary32 false n 65536 n 133 (zero-lt-suc 65535) h (lt_of_lt_of_le (mul-lt-mul_of_pos_right h (pow_pos 133)) (lit≤ tt)) (sym (mul_assoc n (2 ^ 133) 65536))
