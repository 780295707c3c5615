-- Laws of the list of changes, and a turn of the loop that makes it.
use mathlib.Core.Path.{◌≡◌, refl, sym, ap, ◌∙◌}
use mathlib.Core.Bool.{Bool, true, false, cond}
use mathlib.Core.List.{List, [], ◌∷◌, ◌++◌, append_assoc, append-nil}
use Prim.Native.Nat.{ℕ, zero, suc, ◌+◌, ◌-◌, ◌*◌, ◌≤◌, ◌<◌}
use native.Mathlib.Numerals.{add-one}
use native.Mathlib.Omega.{arith}
use lib.ListN.{length, get_or, set, drop, length-append}
use lib.Seq.{set-append_seam, drop-cons}
use Rattle.picture.specs.declared.Pixel.{Pixel}
use Rattle.pixels.specs.Pixels.{pixel_at, with_pixel}
use Rattle.pixels.specs.Channels.{exceeds, exceeds_at}
use Rattle.pixels.proofs.Painting.{Painting, next, turn}
use Rattle.counting.specs.Counts.{how_many}
use Rattle.mending.specs.Changes.{lowered, change, changes_below, laid_entries}
use Rattle.counting.proofs.Counted.{many_more, many_split}
use Rattle.mending.proofs.Lowered.{lowered_at, lowered_is}

-- there are as many entries as pixels that fail
pub as_many : (bytes : List ℕ) (n : ℕ) → length (changes_below bytes n) ≡ how_many (exceeds_at bytes) n
unfolding changes_below how_many
as_many bytes zero = refl
as_many bytes (suc n) = by_test (exceeds_at bytes n) (as_many bytes n)
  where
    by_test : (b : Bool) → length (changes_below bytes n) ≡ how_many (exceeds_at bytes) n →
        length (changes_below bytes n ++ cond b (change n (pixel_at bytes n) ∷ []) []) ≡ how_many (exceeds_at bytes) n + cond b 1 0
    by_test true e = simp length-append (omega arith)
    by_test false e = simp length-append (omega arith)

-- one place more
pub changes_more : (bytes : List ℕ) (n : ℕ) →
    changes_below bytes (n + 1) ≡ changes_below bytes n ++ cond (exceeds_at bytes n) (change n (pixel_at bytes n) ∷ []) []
unfolding changes_below
changes_more bytes n = ap (changes_below bytes) (add-one n)

-- no more in a part than in all
many_up : (test : ℕ → Bool) (i n : ℕ) → i ≤ n → how_many test i ≤ how_many test n
many_up test i n l =
    let e : i + (n - i) ≡ n = omega arith in
    omega (arith, rw e at (many_split test i (n - i)))

-- the entry after those that are listed is written, or none is
listed_more : (list new : List (List ℕ)) (e : List ℕ) (b : Bool) → length new + cond b 1 0 ≤ length list →
    cond b (set (laid_entries new list) (length new) e) (laid_entries new list) ≡ laid_entries (new ++ cond b (e ∷ []) []) list
unfolding laid_entries
listed_more list new e true room =
    rw (drop-cons list (length new) [] (omega arith), set-append_seam new (get_or list (length new) []) (drop (suc (length new)) list) e, length-append new (e ∷ []), append_assoc new (e ∷ []), add-one)
listed_more list new e false room = rw append-nil

-- the loop before pixel i of n: the picture p and the list as they were lent, the count so far, and both as they stand
pub record Turn (p : List ℕ) (list : List (List ℕ)) (n i k : ℕ) (now : List ℕ) (notes : List (List ℕ)) : Type 0 where
  pub painting : Painting (lowered_at p) p now i n
  pub counted : k ≡ how_many (exceeds_at p) i
  pub listing : notes ≡ laid_entries (changes_below p i) list
  pub room : length notes ≡ length list

module _ {p : List ℕ} {list : List (List ℕ)} {n i k : ℕ} {now : List ℕ} {notes : List (List ℕ)} (t : Turn p list n i k now notes) (l : i < n)
    (fits : how_many (exceeds_at p) n ≤ length list) where
  one_more : how_many (exceeds_at p) i + cond (exceeds_at p i) 1 0 ≤ length list
  one_more = omega (arith, many_more (exceeds_at p) i, many_up (exceeds_at p) (i + 1) n (omega arith))

  pub turn_room : k + cond (exceeds_at now i) 1 0 ≤ length notes
  turn_room = rw (next t.painting, t.counted, t.room) one_more

  pub turn_more : {r : ℕ} {now' : List ℕ} {notes' : List (List ℕ)} → 4 * i + 4 ≤ length now → r ≡ k + cond (exceeds_at now i) 1 0 →
      now' ≡ with_pixel now i (lowered (pixel_at now i)) → notes' ≡ cond (exceeds_at now i) (set notes k (change i (pixel_at now i))) notes →
      length notes' ≡ length notes → Turn p list n (i + 1) r now' notes'
  turn_more inside a b c d =
      record {
        painting = turn t.painting (lowered (pixel_at now i)) l inside b (ap lowered (next t.painting) ∙ lowered_is p i);
        counted = a ∙ rw (next t.painting, t.counted) (sym (many_more (exceeds_at p) i));
        listing = c ∙ ap (λ (q : Pixel). cond (exceeds q) (set notes k (change i q)) notes) (next t.painting)
            ∙ rw (t.counted, t.listing, ← as_many p i, changes_more p i)
            (listed_more list (changes_below p i) (change i (pixel_at p i)) (exceeds_at p i) (rw (as_many p i) one_more));
        room = d ∙ t.room;
      }
