-- The scale and the half steps at each stage of the blur: 2^(10n+32) and 4n + 2 when it is done.
use mathlib.Core.Path.{◌≡◌, ◌∙◌, ap}
use Prim.Native.Nat.{ℕ, zero, suc, ◌+◌, ◌*◌, ◌^◌}
use native.Mathlib.Omega.{arith}
use native.Mathlib.Nat.{mul_assoc, mul_left_comm}
use lib.Pow.{pow-add}
use Rattle.passes.proofs.Relates.{after}
use Rattle.exact_blur.specs.Exact.{scale_of}
use Rattle.exact_blur.proofs.Sums.{Close}

pub record Stage : Type 0 where
  pub scale : ℕ
  pub halves : ℕ

-- values beside exact ones at a stage
abbrev pub Near : Stage → ℕ → ℕ → Type 0
Near t a b = Close t.scale t.halves a b

-- a rounding over k: the scale k times as large, and half a step more
abbrev pub over_by : ℕ → Stage → Stage
over_by k t = record { scale = k * t.scale; halves = t.halves + 1 }

-- the stage when the blur is done
abbrev pub done : ℕ → Stage → Stage
done n t = after Near (over_by 8) (over_by 4) (over_by 65536) n t

more : (n m : ℕ) → 4 * (4 * (scale_of n * (8 * (8 * m)))) ≡ scale_of (suc n) * m
more n m =
    let e : scale_of (suc n) ≡ scale_of n * 1024 = ap (λ (k : ℕ). 2 ^ k) (omega arith) ∙ pow-add 2 _ 10 in
    rw (e, mul_assoc (scale_of n) 1024 m, mul_left_comm (scale_of n) 8 (8 * m), mul_left_comm (scale_of n) 8 m, mul_left_comm (scale_of n) 1024 m) (omega arith)

pub done_scale : (n : ℕ) (t : Stage) → (done n t).scale ≡ scale_of n * t.scale
unfolding after
done_scale zero t = omega arith
done_scale (suc n) t = ap (λ (k : ℕ). 4 * (4 * k)) (done_scale n (over_by 8 (over_by 8 t))) ∙ more n t.scale

pub done_halves : (n : ℕ) (t : Stage) → (done n t).halves ≡ t.halves + (4 * n + 2)
unfolding after
done_halves zero t = omega arith
done_halves (suc n) t = let h = done_halves n (over_by 8 (over_by 8 t)) in omega arith
