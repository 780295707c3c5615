-- Laws of places in strictly rising order.
use mathlib.Core.Path.{◌≡◌, refl, sym}
use mathlib.Core.Bool.{Bool, true, false, cond, ◌&&◌, true≢false}
use mathlib.Core.List.{List, [], ◌∷◌, ◌++◌, append-nil}
use Prim.Native.Nat.{ℕ, zero, suc, ◌+◌, ◌≤◌, ◌<◌}
use native.Mathlib.Numerals.{add-one}
use native.Mathlib.Omega.{arith}
use borrow.Author.Tests.{ltb-true, leb-true, le-leb, lt-ltb, not-false}
use lib.Dec.{ltb, leb}
use lib.ListN.{length, get_or, drop}
use lib.Seq.{drop-cons}
use Rattle.picture.specs.declared.Pixel.{Pixel}
use Rattle.pixels.specs.Pixels.{pixel_at}
use Rattle.pixels.specs.Channels.{exceeds_at}
use Rattle.mending.specs.Changes.{change, changes_below}
use Rattle.rebuilding.specs.Restored.{change_place, rising}
use Rattle.rebuilding.specs.Outcome.{wrong_list}

-- two tests that both hold
both : (a b : Bool) → (a && b) ≡ true → (a ≡ true) × (b ≡ true)
both true b h = (refl, h)
both false b h = absurd (true≢false (sym h))

-- what check 18 lets through
pub right_rises : (list : List (List ℕ)) (area : ℕ) → wrong_list list area ≡ false → rising 0 area list ≡ true
unfolding wrong_list
right_rises list area e = not-false _ e

-- the first entry's place, and the others
pub rising_first : (next area : ℕ) (e : List ℕ) (es : List (List ℕ)) → rising next area (e ∷ es) ≡ true →
    (next ≤ change_place e) × (change_place e < area) × (rising (suc (change_place e)) area es ≡ true)
unfolding rising
rising_first next area e es h =
    let low = both _ _ h in
    let high = both _ _ low.1 in
    (leb-true _ _ low.0, ltb-true _ _ high.0, high.1)

-- entry i, and the others after it
pub rising_at : (next area : ℕ) (list : List (List ℕ)) (i : ℕ) → i < length list → let place = change_place (get_or list i []) in
    rising next area (drop i list) ≡ (leb next place && (ltb place area && rising (place + 1) area (drop (i + 1) list)))
unfolding rising
rising_at next area list i l = rw (drop-cons list i [] l, add-one (change_place (get_or list i [])), add-one i)

-- every place is inside
pub rising_inside : (next area : ℕ) (list : List (List ℕ)) → rising next area list ≡ true → (i : ℕ) → i < length list → change_place (get_or list i []) < area
rising_inside next area [] h i l = absurd (omega arith)
rising_inside next area (e ∷ es) h zero l = (rising_first next area e es h).1
rising_inside next area (e ∷ es) h (suc i) l = rising_inside (suc (change_place e)) area es (rising_first next area e es h).2 i (omega arith)

-- a larger area
rising_wider : (next m n : ℕ) (list : List (List ℕ)) → m ≤ n → rising next m list ≡ true → rising next n list ≡ true
unfolding rising
rising_wider next m n [] l h = refl
rising_wider next m n (e ∷ es) l h =
    let first = rising_first next m e es h in
    rw (le-leb _ _ first.0, lt-ltb (change_place e) n (omega arith)) (rising_wider (suc (change_place e)) m n es l first.2)

-- one place more, after all that are below it
rising_more : (next n : ℕ) (list : List (List ℕ)) (q : Pixel) → next ≤ n → rising next n list ≡ true → rising next (suc n) (list ++ (change n q ∷ [])) ≡ true
unfolding rising
rising_more next n [] q l h = rw (le-leb next n l, lt-ltb n (suc n) (omega arith))
rising_more next n (e ∷ es) q l h =
    let first = rising_first next n e es h in
    rw (le-leb _ _ first.0, lt-ltb (change_place e) (suc n) (omega arith)) (rising_more (suc (change_place e)) n es q (omega arith) first.2)

-- the changes are listed in rising order
pub changes_rise : (p : List ℕ) (n : ℕ) → rising 0 n (changes_below p n) ≡ true
unfolding rising changes_below
changes_rise p zero = refl
changes_rise p (suc n) = by_test (exceeds_at p n) (changes_rise p n)
  where
    by_test : (b : Bool) → rising 0 n (changes_below p n) ≡ true → rising 0 (suc n) (changes_below p n ++ cond b (change n (pixel_at p n) ∷ []) []) ≡ true
    by_test true h = rising_more 0 n (changes_below p n) (pixel_at p n) (omega arith) h
    by_test false h = rw append-nil (rising_wider 0 n (suc n) (changes_below p n) (omega arith) h)
