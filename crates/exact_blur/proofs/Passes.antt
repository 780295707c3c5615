-- Each pass rounds, to the nearest, what its exact pass has 8, 4 or 65536 times as large.
use mathlib.Core.Path.{◌≡◌, sym, subst}
use mathlib.Core.Bool.{Bool, true, false, cond}
use Prim.Native.Nat.{ℕ, zero, suc, ◌+◌, ◌*◌, ◌/◌, ◌%◌, ◌≤◌, ◌<◌}
use native.Mathlib.Omega.{arith}
use native.Mathlib.Nat.{mul_comm, mul-one}
use lib.Dec.{eqb}
use Rattle.picture.specs.Planes.{Line}
use Rattle.picture.specs.declared.EdgeMode.{EdgeMode}
use Rattle.edges.specs.Edges.{sample}
use Rattle.edges.proofs.Samples.{sample_relates}
use Rattle.binary32.specs.Taps.{sum_to}
use Rattle.passes.specs.Passes.{halve, double}
use Rattle.passes.proofs.Relates.{Moves}
use Rattle.exact_blur.specs.Exact.{exact_halve, exact_double}
use Rattle.exact_blur.proofs.Sums.{Sum, sum_none, sum_add, sum_times, rounded}
use Rattle.exact_blur.proofs.Stages.{Stage, Near, over_by}

-- a sum over k, rounded, by whatever formula gives that rounding
pub settled : {t : Stage} {w a b f : ℕ} (k : ℕ) → 0 < k → w ≤ k → f ≡ (2 * a + k) / (2 * k) → Sum w t.scale t.halves a b → Near (over_by k t) f b
settled {t} {w} {a} {b} k pos fits e p = subst (λ (f : ℕ). Near (over_by k t) f b) (sym e) (rounded k pos fits p)

either : {t : Stage} {a b c d : ℕ} (z : Bool) → Near t a b → Near t c d → Near t (cond z a c) (cond z b d)
either true p q = p
either false p q = q

module _ (mode : EdgeMode) (t : Stage) (s : ℕ) (p q : Line) (r : (i : ℕ) → Near t (p i) (q i)) where
  -- samples of near lines are near
  pub near : (c d : ℕ) → Near t (sample mode s p c d) (sample mode s q c d)
  near c d = sample_relates mode s p q c d (Near t) sum_none r

  halve_near : (x : ℕ) → Near (over_by 8 t) (halve mode s p x) (exact_halve mode s q x)
  unfolding halve exact_halve
  halve_near x =
      settled 8 (omega arith) (omega arith) (omega arith)
      (sum_add (sum_add (sum_add (near (2 * x) 1) (sum_times 3 (near (2 * x) 0))) (sum_times 3 (near (2 * x + 1) 0))) (near (2 * x + 2) 0))

  double_near : (y : ℕ) → Near (over_by 4 t) (double mode s p y) (exact_double mode s q y)
  unfolding double exact_double
  double_near y =
      either (eqb (y % 2) 0)
      (settled 4 (omega arith) (omega arith) (omega arith) (sum_add (near (y / 2) 1) (sum_times 3 (near (y / 2) 0))))
      (settled 4 (omega arith) (omega arith) (omega arith) (sum_add (sum_times 3 (near (y / 2) 0)) (near (y / 2 + 1) 0)))

  -- a sum of near samples in numerators
  pub taps_near : (c : ℕ → ℕ) (d : ℕ) (m : ℕ → ℕ) (n : ℕ) →
      Sum (sum_to m n) t.scale t.halves (sum_to (λ j. sample mode s p (c j) d * m j) n) (sum_to (λ j. sample mode s q (c j) d * m j) n)
  unfolding sum_to
  taps_near c d m zero = sum_none
  taps_near c d m (suc n) =
      let one = sum_times (m n) (near (c n) d) in
      sum_add (taps_near c d m n) (rw (mul-one, mul_comm (m n) (sample mode s p (c n) d), mul_comm (m n) (sample mode s q (c n) d)) at one)

pub halve_moves : (mode : EdgeMode) → Moves Near (over_by 8) (halve mode) (exact_halve mode)
halve_moves mode t s p q r x = halve_near mode t s p q r x

pub double_moves : (mode : EdgeMode) → Moves Near (over_by 4) (double mode) (exact_double mode)
double_moves mode t s p q r x = double_near mode t s p q r x
