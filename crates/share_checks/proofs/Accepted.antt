-- What the checks of shares say where none refuses.
use mathlib.Core.Path.{◌≡◌, sym, subst}
use mathlib.Core.Bool.{Bool, false}
use mathlib.Core.List.{List, ◌++◌}
use Prim.Native.Nat.{ℕ, ◌*◌, ◌/◌, ◌%◌, ◌≤◌, ◌<◌}
use native.Mathlib.Nat.{mul_comm, mod-lt, div-lt_iff_lt-mul}
use native.Mathlib.Omega.{arith}
use borrow.Author.Tests.{ltb-false, leb-false}
use lib.Dec.{lit<}
use lib.ListN.{length, replicate, length-replicate}
use Rattle.picture.specs.Sizes.{max_side}
use Rattle.picture.specs.Refusal.{Check, first_else, first_of, max_taps, wrong_sides}
use Rattle.picture.proofs.Conditions.{each_passes, right_sides, right_taps}
use Rattle.picture.proofs.Sizes.{full_sized}
use Rattle.grid_sums.specs.Sums.{heavy}
use Rattle.backwards.proofs.Lines.{blank_replicate}
use Rattle.share_checks.specs.Checks.{max_share_depth, too_deep_to_share, place_outside, share_checks}
use Rattle.share_checks.specs.Needs.{AxisAsked, RowReady, ShareAsked}

-- a row of zeros, as long as the longest side
pub zero_row : (s : ℕ) → s ≤ max_side → RowReady s (replicate max_side 0)
zero_row s l = record { room = subst (λ (k : ℕ). s ≤ k) (sym (length-replicate max_side 0)) l; blank = blank_replicate max_side }

-- the output's column along the rows, and its row along the columns
module _ {w h n : ℕ} {ms : List ℕ} {out : ℕ} (a : ShareAsked w h n ms out) where
  pub across_asked : AxisAsked w n ms (out % w)
  across_asked = record { inside = mod-lt out a.sides.w_low; high = a.wide; shallow = a.shallow; kernel = a.kernel }

  pub down_asked : AxisAsked h n ms (out / w)
  down_asked = record { inside = (div-lt_iff_lt-mul a.sides.w_low).1 (omega (arith, a.inside, mul_comm w h)); high = a.tall; shallow = a.shallow; kernel = a.kernel }

-- a place that check 22 lets through
pub inside : (w h place : ℕ) → place_outside w h place ≡ false → place < w * h
unfolding place_outside
inside w h place e = leb-false (w * h) place e

module _ (w h : ℕ) (ms : List ℕ) (n edge : ℕ) (outside : Bool) (e : 0 ≡ first_of (share_checks w h ms n edge outside)) where
  passes : (wrong_sides w h ≡ false) × (length ms ≤ 33) × (n ≤ 3) × (outside ≡ false) × (heavy ms ≡ false)
  unfolding max_taps too_deep_to_share max_share_depth
  passes =
      let p = (each_passes (share_checks w h ms n edge outside) (lit< tt, (lit< tt, (lit< tt, (lit< tt, (lit< tt, (lit< tt, tt))))))).0 e in
      (p.0, ((right_taps (length ms)).0 p.1.0).high, ltb-false 3 n p.1.1.1.0, p.1.1.1.1.0, p.1.1.1.1.1.0)

  pub right : wrong_sides w h ≡ false
  right = passes.0

  pub not_outside : outside ≡ false
  not_outside = passes.3

  pub asked : (out : ℕ) → place_outside w h out ≡ false → ShareAsked w h n ms out
  unfolding heavy
  asked out i =
      let p = passes in
      let s = (right_sides w h).0 right in
      record {
        sides = full_sized w h right;
        wide = s.0.high;
        tall = s.1.high;
        inside = inside w h out i;
        shallow = p.2;
        kernel = record { few = p.1; light = ltb-false 65536 _ p.4 };
      }

  -- the checks before the last have passed: what is left is that one
  pub first_passed : (ls : List Check) → first_of (share_checks w h ms n edge outside ++ ls) ≡ first_of ls
  unfolding first_of first_else
  first_passed ls =
      let p = (each_passes (share_checks w h ms n edge outside) (lit< tt, (lit< tt, (lit< tt, (lit< tt, (lit< tt, (lit< tt, tt))))))).0 e in
      rw (p.0, p.1.0, p.1.1.0, p.1.1.1.0, p.1.1.1.1.0, p.1.1.1.1.1.0)
