-- Laws of the entry: what follows where a call is not refused.
use mathlib.Core.Path.{◌≡◌, sym}
use mathlib.Core.Bool.{false}
use mathlib.Core.List.{List}
use Prim.Native.Nat.{ℕ}
use lib.Dec.{lit<}
use lib.Ieee.{Float}
use lib.ListN.{length}
use Rattle.picture.specs.Sizes.{full_size}
use Rattle.picture.specs.Refusal.{first_of, wrong_sides}
use Rattle.picture.specs.Answer.{answered}
use Rattle.picture.specs.declared.FullSize.{FullSize}
use Rattle.picture.proofs.Sizes.{whole}
use Rattle.picture.proofs.Passed.{passed}
use Rattle.picture.proofs.Answers.{done}
use Rattle.binary32.specs.Round.{whole_offset}
use Rattle.shift.specs.Shift.{shifted_picture}
use Rattle.shift.specs.Outcome.{ShiftReady, shift_checks, shift_outcome}

module _ (p : List ℕ) (w h : ℕ) (dx dy : Float) (e : 0 ≡ first_of (shift_checks (length p) w h dx dy)) where
  pub sides_passed : wrong_sides w h ≡ false
  sides_passed = (passed _ _ (lit< tt) e).0

  -- the work has what it needs, of the size that is made of the sides
  module _ (size : FullSize) (s : size ≡ full_size w h) where
    pub call_ready : ShiftReady size p dx dy
    call_ready =
        let b = passed _ _ (lit< tt) (passed _ _ (lit< tt) e).1 in
        record { pictured = rw s (whole p w h sides_passed b.0); offsets = (passed _ _ (lit< tt) b.1).0 }

    pub call_done : (q : List ℕ) → q ≡ shifted_picture (whole_offset dx) (whole_offset dy) size.w size.h p → answered 0 q ≡ shift_outcome p w h dx dy
    unfolding shift_outcome
    call_done q f = rw (f, s) (done _ p _ (sym e))
