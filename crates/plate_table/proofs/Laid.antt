-- Laws of bytes laid into a buffer: what stays, one run after another, one run before another, and where such runs come from.
use mathlib.Core.Path.{◌≡◌, refl, ◌∙◌, sym, ap}
use mathlib.Core.List.{List, [], ◌++◌, append_assoc}
use mathlib.Core.Logic.{⊎_elim}
use Prim.Native.Nat.{ℕ, ◌+◌, ◌-◌, ◌<◌, ◌≤◌}
use native.Mathlib.Nat.{add-sub_cancel_left}
use native.Mathlib.Omega.{arith}
use lib.ListN.{length, get_or, take, drop, length-append, length-drop, take-append-drop}
use lib.Seq.{ext_get_or, length-take-le, take-take, drop-drop, take-append-le, take_at, drop_at, get_or-take, get_or-append-add, get_or-drop}
use Rattle.picture.specs.Planes.{laid}
use Rattle.picture.specs.Buffers.{line_from, placed_at, copied}
use Rattle.picture.proofs.Placed.{placed_before, placed_inside, placed_past, placed_at_lem, length_placed}
use Rattle.picture.proofs.Spans.{le_or_lt}
use Rattle.plate_table.specs.Steps.{laid_at}

-- at the start
pub laid_first : (new old : List ℕ) → laid_at 0 new old ≡ laid new old
unfolding laid_at
laid_first new old = refl

-- what it unfolds to
laid_is : (a : ℕ) (x old : List ℕ) → laid_at a x old ≡ take a old ++ (x ++ drop (length x) (drop a old))
unfolding laid_at laid
laid_is a x old = refl

module _ (a : ℕ) (x old : List ℕ) where
  -- the buffer, cut before and after the new bytes
  laid_cut : laid_at a x old ≡ (take a old ++ x) ++ drop (a + length x) old
  laid_cut =
      laid_is a x old
      ∙ ap (λ (t : List ℕ). take a old ++ (x ++ t)) (drop-drop (length x) a old)
      ∙ sym (append_assoc (take a old) x (drop (a + length x) old))

  module _ (fits : a + length x ≤ length old) where
    low_long : length (take a old) ≡ a
    low_long = length-take-le a old (omega arith)

    pub laid_length : length (laid_at a x old) ≡ length old
    laid_length = rw laid_cut (simp (length-append, length-drop) (omega (arith, low_long)))

    -- what comes before the last new byte's end, and what comes after it
    laid_before : take (a + length x) (laid_at a x old) ≡ take a old ++ x
    laid_before = rw laid_cut (take_at (take a old ++ x) (drop (a + length x) old) (a + length x) (simp length-append (omega (arith, low_long))))

    laid_after : drop (a + length x) (laid_at a x old) ≡ drop (a + length x) old
    laid_after = rw laid_cut (drop_at (take a old ++ x) (drop (a + length x) old) (a + length x) (simp length-append (omega (arith, low_long))))

    -- the bytes that stay
    pub laid_below : (k : ℕ) → k < a → get_or (laid_at a x old) k 0 ≡ get_or old k 0
    laid_below k l =
        sym (get_or-take a (laid_at a x old) k 0 l)
        ∙ ap (λ (t : List ℕ). get_or t k 0) (ap (take a) (laid_is a x old) ∙ take_at (take a old) (x ++ drop (length x) (drop a old)) a low_long)
        ∙ get_or-take a old k 0 l

    pub laid_inside : (k : ℕ) → k < length x → get_or (laid_at a x old) (a + k) 0 ≡ get_or x k 0
    laid_inside k l =
        let e : a + k ≡ length (take a old) + k = omega (arith, low_long) in
        let rest : List ℕ = drop (length x) (drop a old) in
        ap (λ (j : ℕ). get_or (laid_at a x old) j 0) e
        ∙ rw (laid_is a x old) (get_or-append-add (take a old) (x ++ rest) k 0)
        ∙ sym (get_or-take (length x) (x ++ rest) k 0 l)
        ∙ ap (λ (t : List ℕ). get_or t k 0) (take_at x rest (length x) refl)

    pub laid_above : (k : ℕ) → a + length x ≤ k → get_or (laid_at a x old) k 0 ≡ get_or old k 0
    laid_above k l =
        let past : ℕ = k - (a + length x) in
        let e : k ≡ a + length x + past = omega arith in
        rw e (sym (get_or-drop (a + length x) (laid_at a x old) past 0) ∙ ap (λ (t : List ℕ). get_or t past 0) laid_after ∙ get_or-drop (a + length x) old past 0)

  module _ (y : List ℕ) (b : ℕ) (e : b ≡ a + length x) (fits : a + length x ≤ length old) where
    joined : (take a old ++ x) ++ (y ++ drop (length y) (drop b old)) ≡ laid_at a (x ++ y) old
    joined =
        let f : b + length y ≡ a + length (x ++ y) = simp length-append (omega arith) in
        append_assoc (take a old) x (y ++ drop (length y) (drop b old))
        ∙ ap (λ (t : List ℕ). take a old ++ t)
        (sym (append_assoc x y (drop (length y) (drop b old)))
        ∙ ap (λ (t : List ℕ). (x ++ y) ++ t) (drop-drop (length y) b old ∙ ap (λ (k : ℕ). drop k old) f ∙ sym (drop-drop (length (x ++ y)) a old)))
        ∙ sym (laid_is a (x ++ y) old)

    -- one run after another is one run ..
    pub laid_next : laid_at b y (laid_at a x old) ≡ laid_at a (x ++ y) old
    laid_next =
        let low : take b (laid_at a x old) ≡ take a old ++ x = rw e (laid_before fits) in
        let high : drop b (laid_at a x old) ≡ drop b old = rw e (laid_after fits) in
        laid_is b y (laid_at a x old) ∙ rw (low, high) joined

    -- .. and so is one before another
    pub laid_ahead : laid_at a x (laid_at b y old) ≡ laid_at a (x ++ y) old
    laid_ahead =
        laid_is a x (laid_at b y old)
        ∙ rw (low, high) (sym (append_assoc (take a old) x (y ++ drop (length y) (drop b old))))
        ∙ joined
      where
        high_long : length (take b old) ≡ b
        high_long = length-take-le b old (omega arith)

        low : take a (laid_at b y old) ≡ take a old
        low = rw (laid_is b y old) (take-append-le a (take b old) (y ++ drop (length y) (drop b old)) (omega (arith, high_long)) ∙ take-take a b old (omega arith))

        high : drop (length x) (drop a (laid_at b y old)) ≡ y ++ drop (length y) (drop b old)
        high =
            drop-drop (length x) a (laid_at b y old)
            ∙ ap (λ (k : ℕ). drop k (laid_at b y old)) (sym e)
            ∙ rw (laid_is b y old) (drop_at (take b old) (y ++ drop (length y) (drop b old)) b high_long)

-- no byte
pub laid_none : (a : ℕ) (old : List ℕ) → old ≡ laid_at a [] old
laid_none a old = sym (take-append-drop a old) ∙ sym (laid_is a [] old)

-- the same of two steps
pub laid_then : (a b : ℕ) (x y old : List ℕ) {mid new : List ℕ} → mid ≡ laid_at a x old → new ≡ laid_at b y mid → b ≡ a + length x → a + length x ≤ length old → new ≡ laid_at a (x ++ y) old
laid_then a b x y old m n e fits = n ∙ ap (laid_at b y) m ∙ laid_next a x old y b e fits

-- copied from another place of the buffer
pub laid_copied : (n from to : ℕ) (bytes : List ℕ) → from + n ≤ length bytes → to + n ≤ length bytes → copied n from to bytes ≡ laid_at to (take n (drop from bytes)) bytes
laid_copied n from to bytes f t =
    ext_get_or 0 (copied n from to bytes) (laid_at to run bytes) (length_placed n to (line_from from bytes) bytes ∙ sym (laid_length to run bytes fits)) (λ i l. at i (omega (arith, length_placed n to (line_from from bytes) bytes)))
  where
    run : List ℕ
    run = take n (drop from bytes)

    long : length run ≡ n
    long = length-take-le n (drop from bytes) (simp length-drop (omega arith))

    fits : to + length run ≤ length bytes
    fits = omega (arith, long)

    old : (i : ℕ) → i < length bytes → get_or (copied n from to bytes) i 0 ≡ placed_at n to (line_from from bytes) bytes i
    old i l = placed_at_lem n to (line_from from bytes) bytes i l

    inside : (k : ℕ) → k < n → get_or (copied n from to bytes) (to + k) 0 ≡ get_or (laid_at to run bytes) (to + k) 0
    inside k l =
        old (to + k) (omega arith)
        ∙ placed_inside n to (line_from from bytes) bytes (to + k) k refl l
        ∙ sym (laid_inside to run bytes fits k (omega (arith, long)) ∙ get_or-take n (drop from bytes) k 0 l ∙ get_or-drop from bytes k 0)

    at : (i : ℕ) → i < length bytes → get_or (copied n from to bytes) i 0 ≡ get_or (laid_at to run bytes) i 0
    at i l =
        ⊎_elim
        (λ (a : to ≤ i).
        ⊎_elim
        (λ (b : to + n ≤ i). old i l ∙ placed_past n to (line_from from bytes) bytes i b ∙ sym (laid_above to run bytes fits i (omega (arith, long))))
        (λ (b : i < to + n). let e : i ≡ to + (i - to) = omega arith in rw e (inside (i - to) (omega arith)))
        (le_or_lt (to + n) i))
        (λ (a : i < to). old i l ∙ placed_before n to (line_from from bytes) bytes i a ∙ sym (laid_below to run bytes fits i a))
        (le_or_lt to i)

-- as a part that is lent by itself and comes back
pub laid_part : (a : ℕ) (new old : List ℕ) → take a old ++ (new ++ drop (a + length new - a) (drop a old)) ≡ laid_at a new old
laid_part a new old = rw (add-sub_cancel_left a (length new)) (sym (laid_is a new old))
