-- The blur keeps order between planes of bytes: its samples, its sums of four and its convolution with any weights from 0 to 1 do.
use mathlib.Core.Bool.{Bool, true, false, cond}
use mathlib.Core.List.{List}
use Prim.Native.Nat.{ℕ}
use native.Mathlib.Omega.{arith}
use lib.Ieee.{Float}
use lib.ListN.{length}
use Rattle.picture.specs.Planes.{chan}
use Rattle.picture.specs.Refusal.{max_taps}
use Rattle.picture.specs.declared.EdgeMode.{EdgeMode}
use Rattle.picture.proofs.Conditions.{right_taps}
use Rattle.edges.proofs.Samples.{sample_relates}
use Rattle.binary32.proofs.Channels.{byte_le}
use Rattle.binary32.proofs.Kernels.{weight, weights_of}
use Rattle.binary32.proofs.Taps.{channel_mono}
use Rattle.passes.specs.Kernel.{Kernel}
use Rattle.passes.specs.Passes.{convolve}
use Rattle.passes.proofs.Local.{convolve_local}
use Rattle.kept.proofs.Carried.{Carries, Sampled, Eighths, blur_carries, blur_inside}
use Rattle.gaussian_blur.specs.Blurred.{blurred_plane, blurred}
use Rattle.gaussian_blur.specs.Outcome.{above_zero, blurred_or_kept}
use Rattle.premultiplied.specs.Stays.{KeepsPremultiplied}
use Rattle.premultiplied.proofs.Painted.{Under, chan_byte, painted_keeps}

pub under_sampled : (mode : EdgeMode) → Sampled Under mode
under_sampled mode s p q r c d = sample_relates mode s p q c d Under (omega arith, omega arith) r

pub under_eighths : Eighths Under
under_eighths a b c d a' b' c' d' p q r s = (omega (arith, p.0, q.0, r.0, s.0), omega (arith, p.1, q.1, r.1, s.1))

module _ (mode : EdgeMode) (weights : List Float) (kernel : Kernel weights) where
  -- any weights that checks 4 and 5 let through, on the grid or not
  under_convolve : Carries Under (convolve mode weights) (convolve mode weights)
  unfolding convolve max_taps
  under_convolve s p q r x =
      let few = ((right_taps (length weights)).0 kernel.counted).high in (
        channel_mono _ _ (weight weights) (length weights) (λ j _. (under_sampled mode s p q r _ _).1) (weights_of weights kernel.in_unit) (λ j _. (under_sampled mode s p q r _ _).0) (omega arith),
        byte_le _,
      )

  module _ (n w h : ℕ) where
    pub blurred_keeps : KeepsPremultiplied w h (blurred mode weights n w h)
    unfolding blurred
    blurred_keeps =
        painted_keeps w h (λ p c. blurred_plane mode weights n w h (chan p w c))
        (λ p bytes c x y.
        (blur_carries Under mode (under_sampled mode) under_eighths _ _ under_convolve n w h (chan p w c) (chan p w c) (λ u v. (omega arith, chan_byte p w c u v bytes)) x y).1)
        (λ p bytes low c x y lc lx ly.
        (blur_inside Under mode (under_sampled mode) under_eighths _ _ (convolve_local mode weights) (convolve_local mode weights) under_convolve n w h (omega arith) (omega arith)
        (chan p w c) (chan p w 3) (λ u v lu lv. (low c u v lc lu lv, chan_byte p w 3 u v bytes)) x y).0)

    -- strength at or below zero leaves the picture as it is
    pub blur_keeps : (strength : Float) → KeepsPremultiplied w h (blurred_or_kept mode weights n strength w h)
    unfolding blurred_or_kept
    blur_keeps strength = by (above_zero strength)
      where
        by : (b : Bool) → KeepsPremultiplied w h (λ p. cond b (blurred mode weights n w h p) p)
        by true = blurred_keeps
        by false = record { bytes = λ p b. b; premultiplied = λ p b pre. pre }
