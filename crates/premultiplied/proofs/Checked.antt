-- A premultiplied picture is what the check says: the same in channels, and the same as its answer.
use mathlib.Core.Path.{◌≡◌, refl, sym, ap, ◌∙◌}
use mathlib.Core.Bool.{false}
use mathlib.Core.List.{List}
use Prim.Native.Nat.{ℕ, zero, suc, ◌+◌, ◌*◌, ◌/◌, ◌%◌, ◌≤◌, ◌<◌}
use native.Mathlib.Nat.{mul_comm, zero-mul, mod-lt, div-lt_iff_lt-mul}
use native.Mathlib.Omega.{arith}
use Rattle.std.specs.Prelude.{None, Ok}
use Rattle.picture.specs.Planes.{chan}
use Rattle.picture.specs.Answer.{answered}
use Rattle.picture.proofs.Answers.{done}
use Rattle.picture.proofs.Planes.{pixel_fits}
use Rattle.picture.proofs.Settled.{read}
use Rattle.pixels.specs.Pixels.{pixel_at}
use Rattle.pixels.specs.Channels.{exceeds_at}
use Rattle.pixels.proofs.Painting.{at, chan_here}
use Rattle.grading.specs.Premultiplied.{none, finding, checked}
use Rattle.grading.proofs.Injective.{finding_injective}
use Rattle.grading.proofs.Scanned.{passes_at, finds_none, below_alpha, fits_alpha}
use Rattle.premultiplied.specs.Rule.{Premultiplied, UnderAlpha, InChannels, AsChecked, AsAnswered}

-- each channel of a place that passes
below : (p : List ℕ) (k c : ℕ) → exceeds_at p k ≡ false → c < 3 → at p k c ≤ at p k 3
below p k zero e l = (below_alpha (pixel_at p k) e).0
below p k (suc zero) e l = (below_alpha (pixel_at p k) e).1
below p k (suc (suc zero)) e l = (below_alpha (pixel_at p k) e).2
below p k (suc (suc (suc c))) e l = absurd (omega arith)

module _ (p : List ℕ) (w h : ℕ) where
  under : Premultiplied w h p → UnderAlpha w h p
  unfolding chan
  under pre c x y lc lx ly = below p (y * w + x) c (pre (y * w + x) (omega (arith, pixel_fits w h x y lx ly, mul_comm h w))) lc

  passes : UnderAlpha w h p → Premultiplied w h p
  passes low k l = fits_alpha (pixel_at p k) (here 0 (omega arith)) (here 1 (omega arith)) (here 2 (omega arith))
    where
      wide : 0 < w
      wide = pos_by w (λ z. omega (arith, ap (λ (n : ℕ). n * h) z, zero-mul h))
        where
          pos_by : (a : ℕ) → (a ≡ 0 → ⊥) → 0 < a
          pos_by a f = omega arith

      here : (c : ℕ) → c < 3 → at p k c ≤ at p k 3
      here c lc = rw (chan_here p w c k, chan_here p w 3 k) at (low c (k % w) (k / w) lc (mod-lt k wide) ((div-lt_iff_lt-mul wide).1 (omega (arith, mul_comm w h))))

pub under_alpha : InChannels
under_alpha p w h = (under p w h, passes p w h)

pub is_checked : AsChecked
unfolding checked
is_checked p w h = (
  λ e. let r = read _ _ _ 0 none (sym e) in (sym r.number, passes_at p w h (sym (r.finished refl))),
  λ b. sym (done _ _ _ b.0) ∙ ap (answered 0) (finds_none p w h b.1),
)

pub fits_is : AsAnswered
fits_is κs a r left post =
    let is = is_checked a.0.now a.1.0 a.1.1.0 in
    (λ e. is.0 (sym post ∙ ap finding e), λ b. finding_injective r (Ok None) (post ∙ is.1 b))
