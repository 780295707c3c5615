-- The spread report.
use Rattle.std.specs.Prelude.{◌≡◌, false, Result, Ok, Err, List, [], ◌∷◌, ℕ, ◌+◌, ◌-◌, ◌*◌, ◌/◌, ◌^◌, ◌≤◌, Float, length}
use Rattle.picture.specs.Refusal.{number, Check, check, first_of, max_taps, wrong_taps, too_deep}
use Rattle.picture.specs.declared.checks.Refusal.{Refusal}
use Rattle.picture.specs.Answer.{Answer, answered, settled}
use Rattle.binary32.specs.Grid.{numerator, off_grid}
use Rattle.spread.specs.declared.Spread.{Spread}

-- how far tap j is from tap c
abbrev pub distance : ℕ → ℕ → ℕ
distance c j = (j - c) + (c - j)

-- the sum of numerator times squared distance from tap c, of the weights from tap j on
unfoldable pub moment : ℕ → ℕ → List Float → ℕ
moment c j [] = 0
moment c j (w ∷ ws) = numerator w * (distance c j * distance c j) + moment c (j + 1) ws

-- of a kernel of k taps: from tap floor(k/2)
unfoldable pub moment_of : List Float → ℕ
moment_of ws = moment (length ws / 2) 0 ws

-- what n decimations add (rule 9.4): (4^n - 1) / 2 square full-size pixels; `levels_add` counts it level by level
unfoldable pub decimation_term : ℕ → ℕ
decimation_term n = 65536 * (4 ^ n - 1)

-- the spread of a blur with n decimations, in units of 1/131072 of a square full-size pixel
unfoldable pub spread_of : List Float → ℕ → ℕ
spread_of ws n = 2 * 4 ^ n * moment_of ws + decimation_term n

-- Spread: 4, 6, 11
abbrev pub spread_checks : List Float → ℕ → List Check
spread_checks ws n = check 4 (wrong_taps (length ws)) ∷ check 6 (too_deep n) ∷ check 11 (off_grid ws) ∷ []

-- the number and the spread of each case of the answer
abbrev pub report : Result Spread Refusal → Answer ℕ
report (Err r) = answered (number r) 0
report (Ok s) = answered 0 s.units

-- the first refusal, and a spread of 0; or the spread
unfoldable pub reported : List Float → ℕ → Answer ℕ
reported ws n = settled (first_of (spread_checks ws n)) 0 (spread_of ws n)

-- a kernel that checks 4 and 11 let through: few taps, on the grid, with numerators that sum to 65536
pub record WholeKernel (ws : List Float) : Type 0 where
  pub taps : length ws ≤ max_taps
  pub grid : off_grid ws ≡ false
