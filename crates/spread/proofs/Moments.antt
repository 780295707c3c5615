-- Laws of the sum of numerator times squared distance: a tap more, and how large it can be.
use mathlib.Core.Path.{◌≡◌, sym, ap}
use mathlib.Core.Bool.{false, not}
use mathlib.Core.List.{List, [], ◌∷◌}
use Prim.Native.Nat.{ℕ, ◌+◌, ◌*◌, ◌/◌, ◌<◌, ◌≤◌}
use native.Mathlib.Nat.{add-mul, zero-mul, mul-le-mul, mul-le-mul_left}
use native.Mathlib.Numerals.{add-one}
use native.Mathlib.Omega.{arith}
use lib.Dec.{eqb}
use lib.Ieee.{Float, nan}
use lib.ListN.{length, get_or, drop}
use lib.Seq.{drop-cons}
use borrow.Author.Tests.{eqb-true, ltb-false, not-false}
use Rattle.picture.specs.Refusal.{max_taps, zero_or_above, wrong_taps}
use Rattle.picture.proofs.Tests.{neither}
use Rattle.binary32.specs.Grid.{numerator, all_on_grid, numerators, sum, off_grid}
use Rattle.spread.specs.Spread.{distance, moment, moment_of, WholeKernel}

-- tap j, and those after it
pub moment_step : (c j : ℕ) (ws : List Float) → j < length ws →
    moment c j (drop j ws) ≡ numerator (get_or ws j nan) * (distance c j * distance c j) + moment c (j + 1) (drop (j + 1) ws)
unfolding moment
moment_step c j ws l =
    rw (drop-cons ws j nan l) (ap (λ (n : ℕ). numerator (get_or ws j nan) * (distance c j * distance c j) + moment c (j + 1) (drop n ws)) (sym (add-one j)))

module _ (reach : ℕ) where
  pub near : (c j : ℕ) → c ≤ reach → j ≤ reach → distance c j * distance c j ≤ reach * reach
  near c j a b = mul-le-mul {n₁ = distance c j} {m₁ = distance c j} {n₂ = reach} {m₂ = reach} (omega arith) (omega arith)

  -- no tap is farther than the reach
  moment_high : (c j : ℕ) (ws : List Float) → c ≤ reach → j + length ws ≤ reach → moment c j ws ≤ sum (numerators ws) * (reach * reach)
  unfolding moment sum
  moment_high c j [] a b = omega (arith, zero-mul (reach * reach))
  moment_high c j (w ∷ ws) a b =
      omega (
        arith,
        add-mul (numerator w) (sum (numerators ws)) (reach * reach),
        mul-le-mul_left (numerator w) (near c j a (omega arith)),
        moment_high c (j + 1) ws a (omega arith),
      )

-- what checks 4 and 11 let through
pub kernel : (ws : List Float) → wrong_taps (length ws) ≡ false → off_grid ws ≡ false → WholeKernel ws
unfolding wrong_taps zero_or_above
kernel ws t g = record { taps = ltb-false max_taps _ (neither (eqb (length ws) 0) _ t).1; grid = g }

sum_is : (ws : List Float) → off_grid ws ≡ false → sum (numerators ws) ≡ 65536
unfolding off_grid
sum_is ws h = eqb-true _ _ (not-false _ (neither (not (all_on_grid ws)) _ h).1)

-- the most taps have room, and so has the sum
pub taps_fit : max_taps ≤ 256
unfolding max_taps
taps_fit = omega arith

pub moment_fits : (ws : List Float) → WholeKernel ws → moment_of ws ≤ 4294967296
unfolding moment_of
moment_fits ws k = rw (sum_is ws k.grid) at (moment_high 256 (length ws / 2) 0 ws (omega (arith, taps_fit, k.taps)) (omega (arith, taps_fit, k.taps)))
