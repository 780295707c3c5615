-- How a value of binary32 is written: its bits, that two equal ones are the same, and that one with nothing added is itself.
use Rattle.std.proofs.Common.{◌≡◌, ℕ, ◌+◌, ◌-◌, ◌*◌, ◌/◌, ◌^◌, ◌<◌, false, not, T, sym, refl, ap, ◌∙◌, subst, inl, add-zero, zero-add, zero-mul, mul-one, mul_right_comm}
use lib.Ieee.{Float, binary32, size, round, add, fits, is_nan, of_bits, to_bits}
use lib.Ieee.Bits.{of_bits-to_bits}
use lib.Ieee.Exact.{HasValue}
use lib.Ieee.Fits.{round-fits}
use lib.Ieee.Nearest.{div_same}
use lib.Ieee.Positive.{num, den, den_pos, value→cross}
use Rattle.binary32.specs.Ranges.{zero32}
use Rattle.binary32.proofs.Values.{plain, on_plain, plain_nonneg, plain_of_value, add_at}
use Rattle.binary32.proofs.Scaled.{fits_below, exact}

pub plain_told : (x : Float) → T (plain x) → T (not (is_nan x))
unfolding is_nan
plain_told = on_plain (λ x. T (not (is_nan x))) (λ m e. tt)

-- the bits of u units of 2 ^ -149: how many digits do not fit, and those that do
abbrev pub bits_of : ℕ → ℕ
bits_of u = (size u - 24) * 2 ^ 23 + u / 2 ^ (size u - 24)

pub bits_are : (x : Float) → T (plain x) → to_bits binary32 x ≡ bits_of (num x * 2 ^ 149 / den x)
unfolding to_bits
bits_are = on_plain (λ x. to_bits binary32 x ≡ bits_of (num x * 2 ^ 149 / den x)) (λ m e. rw zero-add)

pub same : (x y : Float) → T (fits binary32 x) → T (fits binary32 y) → T (plain x) → T (plain y) → num x * den y ≡ num y * den x → x ≡ y
same x y F G p q h =
    let units : num x * 2 ^ 149 / den x ≡ num y * 2 ^ 149 / den y =
    div_same (num x * 2 ^ 149) (den x) (num y * 2 ^ 149) (den y) (den_pos x) (den_pos y) (mul_right_comm (num x) (2 ^ 149) (den y) ∙ ap (λ (u : ℕ). u * 2 ^ 149) h ∙ mul_right_comm (num y) (den x) (2 ^ 149)) in
    sym (of_bits-to_bits binary32 x F) ∙ ap (of_bits binary32) (bits_are x p ∙ ap bits_of units ∙ sym (bits_are y q)) ∙ of_bits-to_bits binary32 y G

round_own : (x : Float) → T (fits binary32 x) → T (plain x) → round binary32 false (num x) (den x) ≡ x
round_own x F p =
    let z = round binary32 false (num x) (den x) in
    let one = mul-one (num x) in
    let n = plain_nonneg x p in
    let v : HasValue z false (num x) (den x) =
    subst (λ (a : ℕ). HasValue (round binary32 false a (den x)) false a (den x)) one (exact 0 x n F (subst (λ (a : ℕ). a < 2 ^ 128 * den x) (sym one) (fits_below x n F))) in
    same z x (round-fits binary32 false (num x) (den x)) F (plain_of_value z (num x) (den x) v) p (value→cross z (num x) (den x) v)

pub add_nothing : (x : Float) → T (fits binary32 x) → T (plain x) → add binary32 x zero32 ≡ x
add_nothing x F p =
    add_at x zero32 (num x) 0 (den x) (den_pos x) (plain_nonneg x p, refl) (tt, zero-mul (den x)) (inl p)
    ∙ ap (λ (a : ℕ). round binary32 false a (den x)) (add-zero (num x))
    ∙ round_own x F p
