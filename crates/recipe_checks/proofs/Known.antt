-- A recipe that 19 lets through: its kernel lies within the table, and its number is its operation's.
use mathlib.Core.Path.{◌≡◌, subst}
use mathlib.Core.Bool.{Bool, false, not, ◌&&◌}
use mathlib.Core.List.{List, ◌++◌}
use Prim.Native.Nat.{ℕ, ◌+◌, ◌*◌, ◌≤◌, ◌<◌}
use native.Mathlib.Omega.{arith}
use lib.Dec.{ltb, leb, eqb, lit<}
use lib.Ieee.{Float}
use lib.ListN.{length}
use borrow.Author.Tests.{leb-false, ne_eqb}
use Rattle.picture.specs.Refusal.{Check, first_else, first_of, max_taps, wrong_taps, too_deep}
use Rattle.binary32.specs.Ranges.{any_outside}
use Rattle.picture.proofs.Passed.{passed}
use Rattle.picture.proofs.Tests.{neither}
use Rattle.recipe_checks.specs.declared.Step.{Step}
use Rattle.recipe_checks.specs.Own.{kernels, step_kernel, unknown, kernel_own, operation_own, own_number}

-- no shift, and not refused by 19: the kernel index is in range
pub known_kernel : (weights : ℕ) (step : Step) → unknown weights step ≡ false → (step.operation ≡ 1 → ⊥) → step.kernel < kernels weights
unfolding unknown
known_kernel weights step known other =
    leb-false (kernels weights) step.kernel
    (subst (λ (b : Bool). (not b && leb (kernels weights) step.kernel) ≡ false) (ne_eqb step.operation 1 other) (neither (ltb 2 step.operation) (not (eqb step.operation 1) && leb (kernels weights) step.kernel) known).1)

-- a kernel's 33 weights lie within the table
pub inside : (weights k : ℕ) → k < kernels weights → max_taps * k + max_taps ≤ weights
unfolding kernels max_taps
inside weights k l = omega arith

-- past 19 the operation's checks answer
pub own_is : {r : ℕ} (table : List Float) (step : Step) → unknown (length table) step ≡ false → r ≡ first_of (operation_own table step) → r ≡ own_number table step
unfolding own_number first_of first_else
own_is table step known e = rw known e

-- checks 4, 5 and 6 passed, the later ones answer
kernel_passes : (table : List Float) (step : Step) → 0 ≡ first_of (kernel_own table step) →
    (wrong_taps step.taps ≡ false) × (any_outside (step_kernel table step) ≡ false) × (too_deep step.n ≡ false)
kernel_passes table step e =
    let four = passed _ _ (lit< tt) e in
    let five = passed _ _ (lit< tt) four.1 in
    (four.0, five.0, (passed _ _ (lit< tt) five.1).0)

pub past_kernel : (table : List Float) (step : Step) (later : List Check) → 0 ≡ first_of (kernel_own table step) → first_of later ≡ first_of (kernel_own table step ++ later)
unfolding first_of first_else
past_kernel table step later e = let p = kernel_passes table step e in rw (p.0, p.1, p.2)
