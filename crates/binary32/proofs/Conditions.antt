-- Each check of binary32 values as a proposition beside its Bool: it does not refuse exactly where its condition holds.
use Rattle.std.proofs.Common.{◌≡◌, ℕ, suc, ◌<◌, ◌≤◌, Bool, false, not, T, ◌↔◌, List, [], ◌∷◌, length, ℤ, sym, refl, ap, ◌∙◌, true≢false, zero-lt-suc, eq-eqb}
use native.Mathlib.Nat.{suc-le-suc_iff}
use lib.Ieee.{Float, nan, inf, fin}
use lib.Ieee.Positive.{num, den}
use Rattle.binary32.specs.Ranges.{finite, outside_unit, any_of, any_outside, nonneg}
use Rattle.binary32.specs.Grid.{on_grid, numerator, all_on_grid, numerators, sum, off_grid}
use Rattle.binary32.specs.Taps.{GridWeights}
use Rattle.binary32.proofs.Ranges.{in_unit, unit_in, none_of}
use Rattle.binary32.proofs.Kernels.{weight, sum_of, grid_kernel}

-- a number from 0 to 1: not below 0, and its numerator at most its denominator
abbrev pub ZeroToOne : Float → Type 0
ZeroToOne x = T (nonneg x) × (num x ≤ den x)

-- a number: neither NaN nor infinite
abbrev pub Number : Float → Type 0
Number x = (s : Bool) × (m : ℕ) × (e : ℤ) × (x ≡ fin s m e)

-- 5 of one weight, 8 of a component: from 0 to 1
pub inside_unit : (x : Float) → (outside_unit x ≡ false) ↔ ZeroToOne x
inside_unit x = (in_unit x, λ u. unit_in x u.0 u.1)

-- no value of a list passes a test exactly where none at any index does
pub none_passes : (f : Float → Bool) (l : List Float) → (any_of f l ≡ false) ↔ ((j : ℕ) → j < length l → f (weight l j) ≡ false)
unfolding any_of
none_passes f l = (none_of f l, of_none l)
  where
    of_none : (l : List Float) → ((j : ℕ) → j < length l → f (weight l j) ≡ false) → any_of f l ≡ false
    of_none [] h = refl
    of_none (x ∷ l) h = rw (h 0 (zero-lt-suc (length l))) (of_none l (λ j lt. h (suc j) (suc-le-suc_iff.1 lt)))

-- 5: every weight is from 0 to 1
pub all_inside : (ws : List Float) → (any_outside ws ≡ false) ↔ ((j : ℕ) → j < length ws → ZeroToOne (weight ws j))
unfolding any_outside
all_inside ws =
    let n = none_passes outside_unit ws in
    (λ e j lt. (inside_unit (weight ws j)).0 (n.0 e j lt), λ h. n.1 (λ j lt. (inside_unit (weight ws j)).1 (h j lt)))

-- 7: a number
pub is_number : (x : Float) → (not (finite x) ≡ false) ↔ Number x
unfolding finite
is_number x = (number_of x, number_in)
  where
    number_of : (x : Float) → not (finite x) ≡ false → Number x
    number_of nan e = absurd (true≢false e)
    number_of (inf s) e = absurd (true≢false e)
    number_of (fin s m e) _ = (s, m, e, refl)

    number_in : Number x → not (finite x) ≡ false
    number_in n = rw n.3

-- 11: every weight is on the grid, and the numerators sum to 65536
pub on_grid_lem : (ws : List Float) → (off_grid ws ≡ false) ↔ (GridWeights (weight ws) (length ws) × (sum (numerators ws) ≡ 65536))
unfolding off_grid all_on_grid
on_grid_lem ws = (λ e. let g = grid_kernel ws e in (g.0, sym (sum_of numerator ws) ∙ g.1), of_grid_kernel)
  where
    of_grid_kernel : GridWeights (weight ws) (length ws) × (sum (numerators ws) ≡ 65536) → off_grid ws ≡ false
    of_grid_kernel g =
        rw ((none_passes (λ w. not (on_grid w)) ws).1 (λ j lt. ap not (g.0 j lt)), eq-eqb (sum (numerators ws)) 65536 g.1)
