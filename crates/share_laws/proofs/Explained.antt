-- Summed over all inputs, share times channel is the exact blur.
use mathlib.Core.Path.{◌≡◌, refl, ◌∙◌, sym, ap}
use mathlib.Core.Bool.{Bool, true, false}
use Prim.Native.Nat.{ℕ, ◌+◌, ◌*◌, ◌/◌, ◌%◌, ◌<◌}
use native.Mathlib.Nat.{mul_comm, mul-zero, zero-mul, mul-one, div-add-mod'}
use native.Mathlib.Omega.{arith}
use lib.Dec.{eqb}
use borrow.Author.Tests.{eqb-true, eqb-false, eq-eqb, ne_eqb}
use Rattle.picture.specs.Planes.{Plane}
use Rattle.picture.proofs.Planes.{remainder, quotient, pixel_fits}
use Rattle.binary32.specs.Taps.{sum_to}
use Rattle.share_laws.specs.Share.{unit, impulse, share}
use Rattle.share_laws.specs.Explained.{Explained}
use Rattle.share_laws.proofs.Sums.{sum_pick}
use Rattle.share_laws.proofs.Exact.{exact_linear, exact_local}

unit_at : (i : ℕ) → unit i i ≡ 1
unit_at i = rw (eq-eqb i i refl)

unit_off : (i x : ℕ) → (x ≡ i → ⊥) → unit i x ≡ 0
unit_off i x f = rw (ne_eqb x i f)

-- an impulse elsewhere is 0 here
impulse_off : (w x y k : ℕ) → (k ≡ y * w + x → ⊥) → impulse (k % w) (k / w) x y ≡ 0
impulse_off w x y k f = by (eqb x (k % w)) refl
  where
    by : (b : Bool) → eqb x (k % w) ≡ b → impulse (k % w) (k / w) x y ≡ 0
    by false t = rw (unit_off (k % w) x (eqb-false x (k % w) t)) (zero-mul (unit (k / w) y))
    by true t =
        let q : x ≡ k % w = eqb-true x (k % w) t in
        rw (unit_off (k / w) y (λ p. f (sym (ap (λ (a : ℕ). a * w + x) p ∙ ap (λ (a : ℕ). k / w * w + a) q ∙ div-add-mod' k w)))) (mul-zero (unit (k % w) x))

module _ (w h : ℕ) (p : Plane) where
  -- a plane as the weighted sum of impulses, inside
  apart : (x y : ℕ) → x < w → y < h → p x y ≡ sum_to (λ k. p (k % w) (k / w) * impulse (k % w) (k / w) x y) (w * h)
  apart x y lx ly =
      sym
      (sum_pick _ (w * h) (y * w + x) (omega (arith, pixel_fits w h x y lx ly, mul_comm h w))
      (λ k _ f. rw (impulse_off w x y k f) (mul-zero (p (k % w) (k / w))))
      ∙ rw (remainder w y x lx, quotient w y x lx, unit_at x, unit_at y) (mul-one (p x y)))

pub explained : Explained
unfolding share
explained mode numerators n w h p ox oy zw zh =
    exact_local mode numerators n w h p _ zw zh (apart w h p) ox oy
    ∙ (exact_linear mode numerators n w h ox oy).law (w * h) (λ k. p (k % w) (k / w)) (λ k. impulse (k % w) (k / w))
