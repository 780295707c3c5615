-- A picture that passes the check is mended as it stands, and a mended picture passes.
use mathlib.Core.Path.{◌≡◌, refl, sym, ap, ◌∙◌}
use mathlib.Core.Bool.{false}
use mathlib.Core.List.{List, [], ◌∷◌}
use Prim.Native.Nat.{ℕ, zero, suc, ◌*◌, ◌/◌, ◌≤◌, ◌<◌}
use native.Mathlib.Numerals.{add-one}
use native.Mathlib.Omega.{arith}
use lib.ListN.{length}
use borrow.Author.Tests.{le-ltb}
use lib.Dec.{ltb}
use Rattle.picture.specs.Answer.{answered, settled}
use Rattle.picture.specs.Planes.{bytes_of}
use Rattle.picture.specs.Refusal.{first_else, first_of}
use Rattle.picture.specs.Sizes.{Pictured}
use Rattle.pixels.specs.Pixels.{pixel_at, with_pixel}
use Rattle.pixels.specs.Channels.{exceeds, exceeds_at}
use Rattle.pixels.proofs.Painting.{Painting, begins, turn}
use Rattle.grading.specs.Premultiplied.{none, scanned}
use Rattle.grading.proofs.Scanned.{finds_none}
use Rattle.counting.specs.Counts.{how_many}
use Rattle.mending.specs.Changes.{lowered, mended, changes_below, laid_entries}
use Rattle.mending.specs.Outcome.{mend_left, failing, room_checks, mend_done}
use Rattle.counting.proofs.Counted.{many_none, none_many}
use Rattle.mending.proofs.Lowered.{kept, passes, same_pixel, lowered_at, lowered_is, mended_is, mended_pixel}
use Rattle.mending.proofs.Listed.{as_many}

-- no pixel of the first n exceeds
abbrev pub AllPass : List ℕ → ℕ → Type 0
AllPass p n = (k : ℕ) → k < n → exceeds_at p k ≡ false

-- lowering pixel after pixel changes nothing
still : (p : List ℕ) (n : ℕ) → 4 * n ≤ length p → AllPass p n → (i : ℕ) → i ≤ n → Painting (lowered_at p) p p i n
still p n room pass zero l = begins
still p n room pass (suc i) l =
    rw (← add-one i)
    (turn (still p n room pass i (omega arith)) (lowered (pixel_at p i)) (omega arith) (omega arith)
    (sym (ap (with_pixel p i) (kept (pixel_at p i) (pass i (omega arith))) ∙ same_pixel p i)) (lowered_is p i))

pub mended_still : (w h : ℕ) (p : List ℕ) → length p ≡ bytes_of w h → AllPass p (w * h) → p ≡ mended w h p
mended_still w h p exact pass = mended_is w h p (still p (w * h) (omega arith) pass (w * h) (omega arith)) refl exact

-- nothing is listed
none_listed : (p : List ℕ) (n : ℕ) → how_many (exceeds_at p) n ≡ 0 → changes_below p n ≡ []
none_listed p n z = empty (changes_below p n) (as_many p n ∙ z)
  where
    empty : {A : Type 0} (xs : List A) → length xs ≡ 0 → xs ≡ []
    empty [] e = refl
    empty (x ∷ xs) e = absurd (omega arith)

-- where the count is 0, all that mending leaves is there already
pub nothing_failing : (p : List ℕ) (w h : ℕ) (list : List (List ℕ)) → length p ≡ bytes_of w h → failing p w h ≡ 0 → mend_left p list 0 ≡ mend_done p w h list
unfolding laid_entries
nothing_failing p w h list exact z =
    rw (← mended_still w h p exact (none_many (exceeds_at p) (w * h) z), none_listed p (w * h) z, z)

-- a picture has a pixel for each four bytes
pub a_quarter : (n : ℕ) → 4 * n / 4 ≡ n
a_quarter n = omega arith

-- where the count of a whole picture's pixels is 0, the room is enough, and all is as it was
pub nothing_counted : (p : List ℕ) (w h : ℕ) (list : List (List ℕ)) → Pictured w h p → how_many (exceeds_at p) (4 * (w * h) / 4) ≡ 0 →
    settled (first_of (room_checks p w h (length list))) (mend_left p list 0) (mend_done p w h list) ≡ answered 0 (mend_left p list 0)
unfolding settled first_of first_else
nothing_counted p w h list pictured z =
    let none : failing p w h ≡ 0 = ap (how_many (exceeds_at p)) (sym (a_quarter (w * h))) ∙ z in
    let roomy : ltb (length list) (failing p w h) ≡ false = rw none (le-ltb _ _ (omega arith)) in
    rw roomy (ap (answered 0) (sym (nothing_failing p w h list pictured.exact none)))

-- every pixel of a mended picture passes, so none of them fails
pub mended_passes : (w h : ℕ) (p : List ℕ) → AllPass (mended w h p) (w * h)
mended_passes w h p k l = ap exceeds (mended_pixel w h p k l) ∙ passes (pixel_at p k)

pub none_failing : (w h : ℕ) (p : List ℕ) → failing (mended w h p) w h ≡ 0
none_failing w h p = many_none _ (w * h) (mended_passes w h p)

-- the check's scan finds nothing
pub nothing_found : (w h : ℕ) (p : List ℕ) → scanned (mended w h p) w h ≡ none
nothing_found w h p = finds_none (mended w h p) w h (mended_passes w h p)
