-- What a call of `mend` that is done says of its picture, list and count; and what later calls on the mended picture come to.
use mathlib.Core.Path.{◌≡◌, sym, ap}
use mathlib.Core.Bool.{false}
use mathlib.Core.List.{List}
use Prim.Native.Nat.{ℕ, ◌*◌}
use native.Mathlib.Omega.{arith}
use borrow.Author.Tests.{le-ltb}
use lib.Dec.{ltb, lit<}
use lib.ListN.{length, take}
use lib.Seq.{take-append_seam}
use Rattle.picture.specs.Planes.{bytes_of}
use Rattle.picture.specs.Answer.{answered, settled}
use Rattle.picture.specs.Refusal.{first_else, first_of, wrong_sides, wrong_length}
use Rattle.picture.proofs.Answers.{accepted}
use Rattle.picture.proofs.Conditions.{right_length}
use Rattle.picture.proofs.Passed.{passed}
use Rattle.picture.proofs.Settled.{read}
use Rattle.grading.specs.Premultiplied.{none, checked}
use Rattle.mending.specs.Changes.{mended, changes_below, laid_entries}
use Rattle.rebuilding.specs.Outcome.{wrong_list, rebuild_outcome}
use Rattle.mending.specs.Outcome.{MendLeft, mend_left, failing, mend_done, mend_outcome}
use Rattle.mending.proofs.Lowered.{length_mended}
use Rattle.mending.proofs.Listed.{as_many}
use Rattle.counting.proofs.Packed.{Bytes}
use Rattle.mending.proofs.Passing.{nothing_failing, none_failing, nothing_found}
use Rattle.rebuilding.proofs.Rising.{changes_rise}
use Rattle.rebuilding.proofs.Restores.{old_back}

-- the call's picture, sides and list; what it left, and its count
pub record MendAccepted (p : List ℕ) (w h : ℕ) (list : List (List ℕ)) (left : MendLeft) : Type 0 where
  pub sides : wrong_sides w h ≡ false
  pub exact : length p ≡ bytes_of w h
  pub done : left ≡ mend_done p w h list

pub mend_accepted : (p : List ℕ) (w h : ℕ) (list : List (List ℕ)) (left : MendLeft) → answered 0 left ≡ mend_outcome p w h list → MendAccepted p w h list left
unfolding mend_outcome
mend_accepted p w h list left e =
    let zero = (read _ _ _ 0 left e).number in
    let one = passed _ _ (lit< tt) zero in
    let two = passed _ _ (lit< tt) one.1 in
    record { sides = one.0; exact = (right_length (length p) w h).0 two.0; done = accepted _ _ _ left e }

module _ {p : List ℕ} {w h : ℕ} {list : List (List ℕ)} {left : MendLeft} (a : MendAccepted p w h list left) where
  -- the mended picture passes checks 1 and 2
  still_right : wrong_length (length (mended w h p)) w h ≡ false
  still_right = (right_length (length (mended w h p)) w h).1 (length_mended w h p)

  -- mended again: nothing is counted, listed or changed, whatever the list
  pub again : (other : List (List ℕ)) → mend_outcome left.picture w h other ≡ answered 0 (mend_left left.picture other 0)
  unfolding mend_outcome settled first_of first_else
  again other =
      let roomy : ltb (length other) (failing (mended w h p) w h) ≡ false = rw (none_failing w h p) (le-ltb (length other) 0 (omega arith)) in
      rw (a.done, a.sides, still_right, roomy)
      (ap (answered 0) (sym (nothing_failing (mended w h p) w h other (length_mended w h p) (none_failing w h p))))

  -- rebuilt from the first entries, as many as were counted
  pub old_again : Bytes p → rebuild_outcome left.picture w h (take left.count left.list) ≡ answered 0 p
  unfolding rebuild_outcome settled first_of first_else laid_entries wrong_list
  old_again fit =
      rw (a.done, ← as_many p (w * h), take-append_seam (changes_below p (w * h)), a.sides, still_right, changes_rise p (w * h))
      (ap (answered 0) (old_back w h p fit a.exact))

  -- checked: nothing is found
  pub passes_check : checked left.picture w h ≡ answered 0 none
  unfolding checked settled first_of first_else
  passes_check = rw (a.done, a.sides, still_right) (ap (answered 0) (nothing_found w h p))
