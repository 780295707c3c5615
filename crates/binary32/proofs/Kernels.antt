-- A list of weights by its index: what a check says of the list holds of each weight, and its numerators have the same sum.
use Rattle.std.proofs.Common.{◌≡◌, ℕ, zero, suc, ◌+◌, ◌<◌, ◌≤◌, Bool, true, false, not, ◌||◌, eqb, List, [], ◌∷◌, map, length, get_or, drop, refl, ap, ◌∙◌, add-zero, add_assoc, zero-add, add-one, arith, drop_of_length-le, drop-cons, ne_eqb, eqb-true}
use mathlib.Core.Bool.{or-true}
use borrow.Author.Tests.{not-true, not-false}
use lib.Ieee.{Float, nan}
use Rattle.binary32.specs.Ranges.{outside_unit, any_of, any_outside}
use Rattle.binary32.specs.Grid.{on_grid, numerator, all_on_grid, numerators, sum, off_grid}
use Rattle.binary32.specs.Taps.{sum_to, Weights, GridWeights}
use Rattle.binary32.proofs.Ranges.{neither, none_of}
use Rattle.binary32.proofs.Grid.{grid_in_unit}

-- weight j of a list
abbrev pub weight : List Float → ℕ → Float
weight ws j = get_or ws j nan

pub weights_of : (ws : List Float) → any_outside ws ≡ false → Weights (weight ws) (length ws)
unfolding any_outside
weights_of ws h = none_of outside_unit ws h

pub grid_weights_of : (ws : List Float) → all_on_grid ws ≡ true → GridWeights (weight ws) (length ws)
unfolding all_on_grid
grid_weights_of ws h j l = not-false (on_grid (weight ws j)) (none_of (λ w. not (on_grid w)) ws (not-true (any_of (λ w. not (on_grid w)) ws) h) j l)

pub grid_weights : (k : ℕ → Float) (n : ℕ) → GridWeights k n → Weights k n
grid_weights k n g j l = grid_in_unit (k j) (g j l)

-- ---- the sum of a list, by its index
sum_front : (f : ℕ → ℕ) (n : ℕ) → sum_to f (suc n) ≡ f 0 + sum_to (λ j. f (suc j)) n
unfolding sum_to
sum_front f zero = omega arith
sum_front f (suc n) = omega (arith, sum_front f n)

pub sum_of : (f : Float → ℕ) (ws : List Float) → sum_to (λ j. f (weight ws j)) (length ws) ≡ sum (map f ws)
unfolding sum_to sum
sum_of f [] = refl
sum_of f (w ∷ ws) = sum_front (λ j. f (weight (w ∷ ws) j)) (length ws) ∙ ap (λ (n : ℕ). f w + n) (sum_of f ws)

-- ---- what refusal 11 lets through
pub grid_kernel : (ws : List Float) → off_grid ws ≡ false → GridWeights (weight ws) (length ws) × (sum_to (λ j. numerator (weight ws j)) (length ws) ≡ 65536)
unfolding off_grid
grid_kernel ws h =
    let n = neither (not (all_on_grid ws)) (not (eqb (sum (numerators ws)) 65536)) h in
    (grid_weights_of ws (not-false (all_on_grid ws) n.0), sum_of numerator ws ∙ eqb-true (sum (numerators ws)) 65536 (not-false (eqb (sum (numerators ws)) 65536) n.1))

-- ---- the weights from i on, where those before i are on the grid and their numerators sum to s
abbrev pub off_from : ℕ → List Float → Bool
off_from s ws = not (all_on_grid ws) || not (eqb (s + sum (numerators ws)) 65536)

pub off_none : (ws : List Float) → off_grid ws ≡ off_from 0 ws
unfolding off_grid
off_none ws = rw zero-add

pub off_end : (s : ℕ) (ws : List Float) (i : ℕ) → length ws ≤ i → off_from s (drop i ws) ≡ not (eqb s 65536)
unfolding all_on_grid any_of sum
off_end s ws i h = rw (drop_of_length-le ws {i = i} h, add-zero)

pub off_far : (s : ℕ) (ws : List Float) → 65536 < s → off_from s ws ≡ true
off_far s ws h = rw (ne_eqb (s + sum (numerators ws)) 65536 (λ e. let n : ⊥ = omega arith in n), or-true)

module _ (s : ℕ) (ws : List Float) (i : ℕ) (l : i < length ws) where
  pub off_here : on_grid (weight ws i) ≡ false → off_from s (drop i ws) ≡ true
  unfolding all_on_grid any_of
  off_here h = rw (drop-cons ws i nan l, h)

  pub off_step : on_grid (weight ws i) ≡ true → off_from s (drop i ws) ≡ off_from (s + numerator (weight ws i)) (drop (i + 1) ws)
  unfolding all_on_grid any_of sum
  off_step h = rw (add-one, drop-cons ws i nan l, h, add_assoc)
