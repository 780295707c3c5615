-- What n decimations add, level by level: a halving and a doubling at each level from 0 to n - 1.
use mathlib.Core.Path.{◌≡◌, refl, sym}
use Prim.Native.Nat.{ℕ, zero, suc, ◌+◌, ◌*◌, ◌^◌}
use native.Mathlib.Nat.{pow-suc}
use native.Mathlib.Omega.{arith}
use Rattle.binary32.specs.Taps.{sum_to}
use Rattle.spread.specs.Spread.{decimation_term}
use Rattle.spread.proofs.Scales.{four_pos}

-- what halving adds at level i, and doubling as much: 0.75·4^i square full-size pixels
abbrev pub pass_term : ℕ → ℕ
pass_term i = 98304 * 4 ^ i

level_adds : (n : ℕ) → decimation_term (suc n) ≡ decimation_term n + 2 * pass_term n
unfolding decimation_term
level_adds n = rw (pow-suc 4 n) (omega (arith, four_pos n))

pub levels_add : (n : ℕ) → decimation_term n ≡ sum_to (λ i. 2 * pass_term i) n
unfolding sum_to decimation_term
levels_add zero = refl
levels_add (suc n) = rw (sym (levels_add n)) (level_adds n)
