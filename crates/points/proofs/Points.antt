-- Laws of the points below a place: one more, none in a stretch without shares, and how they are laid into a list.
use mathlib.Core.Path.{◌≡◌, refl, ◌∙◌, ap}
use mathlib.Core.Bool.{Bool, true, false, cond}
use mathlib.Core.List.{List, [], ◌∷◌, ◌++◌, append-nil, append_assoc}
use Prim.Native.Nat.{ℕ, zero, suc, ◌+◌, ◌≤◌, ◌<◌}
use native.Mathlib.Numerals.{add-one}
use native.Mathlib.Omega.{arith}
use borrow.Author.Tests.{eqb-true, eqb-false, eq-eqb, ne_eqb}
use lib.Dec.{eqb}
use lib.ListN.{length, get_or, set, drop, length-append, length-drop}
use lib.Seq.{set-append_seam, drop-cons}
use Rattle.picture.specs.Buffers.{line_of}
use Rattle.mending.specs.Changes.{laid_entries}
use Rattle.back_passes.specs.Worth.{NextNonzero}
use Rattle.points.specs.Points.{point, points_below}

-- a point more, or none
pub points_one : (f : ℕ → ℕ) (k : ℕ) → (f k ≡ 0 → ⊥) → points_below f (suc k) ≡ points_below f k ++ (point k (f k) ∷ [])
unfolding points_below
points_one f k h = rw (ne_eqb (f k) 0 h)

points_none : (f : ℕ → ℕ) (k : ℕ) → f k ≡ 0 → points_below f (suc k) ≡ points_below f k
unfolding points_below
points_none f k h = rw (eq-eqb (f k) 0 h, append-nil (points_below f k))

-- a stretch without shares has none
pub points_skip : (f : ℕ → ℕ) (a b : ℕ) → a ≤ b → ((k : ℕ) → a ≤ k → k < b → f k ≡ 0) → points_below f b ≡ points_below f a
points_skip f a zero h z = let e : a ≡ 0 = omega arith in rw e
points_skip f a (suc b) h z = by (eqb a (suc b)) refl (λ k. points_skip f a b k (λ j l m. z j l (omega arith)))
  where
    by : (t : Bool) → eqb a (suc b) ≡ t → (a ≤ b → points_below f b ≡ points_below f a) → points_below f (suc b) ≡ points_below f a
    by true t r = let e : a ≡ suc b = eqb-true a (suc b) t in rw e
    by false t r = let l = other (eqb-false a (suc b) t) in points_none f b (z b l (omega arith)) ∙ r l
      where
        other : (a ≡ suc b → ⊥) → a ≤ b
        other p = omega arith

-- how many
pub count_more : (f : ℕ → ℕ) (k : ℕ) → length (points_below f (suc k)) ≡ length (points_below f k) + cond (eqb (f k) 0) 0 1
unfolding points_below
count_more f k = by (eqb (f k) 0)
  where
    by : (b : Bool) → length (points_below f k ++ cond b [] (point k (f k) ∷ [])) ≡ length (points_below f k) + cond b 0 1
    by true = length-append (points_below f k) []
    by false = length-append (points_below f k) (point k (f k) ∷ [])

pub count_up : (f : ℕ → ℕ) (a b : ℕ) → a ≤ b → length (points_below f a) ≤ length (points_below f b)
count_up f a zero h = let e : a ≡ 0 = omega arith in rw e (omega arith)
count_up f a (suc b) h = by (eqb a (suc b)) refl (λ k. count_up f a b k)
  where
    by : (t : Bool) → eqb a (suc b) ≡ t → (a ≤ b → length (points_below f a) ≤ length (points_below f b)) → length (points_below f a) ≤ length (points_below f (suc b))
    by true t r = let e : a ≡ suc b = eqb-true a (suc b) t in rw e (omega arith)
    by false t r = omega (arith, r (other (eqb-false a (suc b) t)), count_more f b)
      where
        other : (a ≡ suc b → ⊥) → a ≤ b
        other p = omega arith

pub count_le : (f : ℕ → ℕ) (n : ℕ) → length (points_below f n) ≤ n
unfolding points_below
count_le f zero = omega arith
count_le f (suc n) = omega (arith, count_le f n, count_more f n, one_le (eqb (f n) 0))
  where
    one_le : (b : Bool) → cond b 0 1 ≤ 1
    one_le true = omega arith
    one_le false = omega arith

-- shares that agree have the same points
pub points_same : (f g : ℕ → ℕ) (n : ℕ) → ((k : ℕ) → k < n → f k ≡ g k) → points_below f n ≡ points_below g n
unfolding points_below
points_same f g zero h = refl
points_same f g (suc n) h = rw (points_same f g n (λ k l. h k (omega arith)), h n (omega arith))

-- the entry after those that are laid is written
pub laid_more : (old new : List (List ℕ)) (e : List ℕ) → length new < length old → set (laid_entries new old) (length new) e ≡ laid_entries (new ++ (e ∷ [])) old
unfolding laid_entries
laid_more old new e room =
    rw (drop-cons old (length new) [] room, set-append_seam new (get_or old (length new) []) (drop (suc (length new)) old) e, length-append new (e ∷ []), append_assoc new (e ∷ []), add-one)

-- laid into a list it is as long as it was
pub length_laid : (old new : List (List ℕ)) → length new ≤ length old → length (laid_entries new old) ≡ length old
unfolding laid_entries
length_laid old new l = simp (length-append, length-drop) (omega arith)

-- a list that is longer than what is laid into it was so before
pub laid_room : (old new : List (List ℕ)) → length new < length (laid_entries new old) → length new < length old
unfolding laid_entries
laid_room old new l = omega (arith, simp (length-append, length-drop) at l)

-- an element that is not 0, and the next that is not
module _ (row : List ℕ) where
  pub row_first : (i : ℕ) → NextNonzero row 0 i → points_below (line_of row) i ≡ []
  unfolding points_below
  row_first i n = points_skip (line_of row) 0 i n.low n.blank

  pub row_next : (i j : ℕ) → (get_or row i 0 ≡ 0 → ⊥) → NextNonzero row (i + 1) j → length (points_below (line_of row) j) ≡ length (points_below (line_of row) i) + 1
  row_next i j f n =
      ap length (points_skip (line_of row) (i + 1) j n.low n.blank)
      ∙ ap (λ (k : ℕ). length (points_below (line_of row) k)) (add-one i)
      ∙ ap length (points_one (line_of row) i f)
      ∙ length-append (points_below (line_of row) i) (point i (get_or row i 0) ∷ [])
