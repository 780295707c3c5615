-- How much all shares of one output come to, and how large one can be.
use mathlib.Core.Path.{◌≡◌, ◌∙◌, sym, ap}
use mathlib.Core.Bool.{Bool, true, false, cond}
use mathlib.Core.List.{List}
use Prim.Native.Nat.{ℕ, ◌+◌, ◌*◌, ◌/◌, ◌%◌, ◌^◌, ◌≤◌}
use native.Mathlib.Nat.{one-mul, mul-one, mul-le-mul}
use native.Mathlib.Omega.{arith}
use lib.Dec.{eqb}
use lib.Pow.{pow-add}
use Rattle.picture.specs.declared.EdgeMode.{EdgeMode}
use Rattle.binary32.specs.Grid.{sum}
use Rattle.exact_blur.specs.Exact.{scale_of}
use Rattle.share_laws.specs.Share.{unit, share_at, axis_scale, axis_share}
use Rattle.share_laws.specs.Explained.{SharesWhole, SharesBounded}
use Rattle.share_laws.proofs.Sums.{sum_same}
use Rattle.share_laws.proofs.Explained.{explained}
use Rattle.share_laws.proofs.Separate.{separate, exact_times}
use Rattle.share_laws.proofs.Flat.{line_flat, line_most}

-- two axes
both_scales : (n : ℕ) → axis_scale n * axis_scale n ≡ scale_of n
both_scales n = sym (pow-add 2 (5 * n + 16) (5 * n + 16)) ∙ ap (λ (k : ℕ). 2 ^ k) (omega arith)

pub shares_whole : SharesWhole
shares_whole mode f ms e n w h out zw zh =
    sum_same (share_at mode ms n w h out) (λ k. 1 * share_at mode ms n w h out k) (w * h) (λ k _. sym (one-mul (share_at mode ms n w h out k)))
    ∙ sym (explained mode ms n w h (λ _ _. 1) (out % w) (out / w) zw zh)
    ∙ exact_times mode ms n w h (λ _. 1) (λ _. 1) (out % w) (out / w)
    ∙ rw (line_flat mode f ms e n w (λ _. 1) 1 (λ _. omega arith) (out % w), line_flat mode f ms e n h (λ _. 1) 1 (λ _. omega arith) (out / w), mul-one (axis_scale n)) (both_scales n)

unit_le : (i x : ℕ) → unit i x ≤ 1
unit_le i x = by (eqb x i)
  where
    by : (b : Bool) → cond b 1 0 ≤ 1
    by true = omega arith
    by false = omega arith

module _ (mode : EdgeMode) (ms : List ℕ) (fits : sum ms ≤ 65536) where
  pub axis_le : (n s o i : ℕ) → axis_share mode ms n s o i ≤ axis_scale n
  unfolding axis_share
  axis_le n s o i = omega (arith, line_most mode ms fits n s (unit i) 1 (unit_le i) o, mul-one (axis_scale n))

pub shares_bounded : SharesBounded
shares_bounded mode ms fits n w h ox oy ix iy = (
  axis_le mode ms fits n w ox ix,
  rw (separate mode ms n w h ox oy ix iy, ← both_scales n)
      (mul-le-mul {n₁ = axis_share mode ms n w ox ix} {m₁ = axis_share mode ms n h oy iy} (axis_le mode ms fits n w ox ix) (axis_le mode ms fits n h oy iy)),
)
