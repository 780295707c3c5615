-- Laws of a list of which a run is set to 0: by its rule at each index, and as a part that is lent and cleared.
use mathlib.Core.Path.{◌≡◌, sym, ap, ◌∙◌}
use mathlib.Core.List.{List, ◌++◌, append-nil}
use Prim.Native.Nat.{ℕ, ◌+◌, ◌-◌, ◌≤◌, ◌<◌}
use native.Mathlib.Omega.{arith}
use lib.ListN.{length, take, drop, get_or, replicate, length-append, length-drop, length-replicate, drop_of_length-le, get_or-append, get_or-replicate}
use lib.Seq.{length-take-le, take_all, get_or-take, get_or-drop, get_or-append-add}
use borrow.Author.Tests.{lt-ltb, le-ltb}
use borrow.Rule.Slice.PartMut.{mid_of, put_mid}
use Rattle.picture.specs.Build.{build}
use Rattle.picture.specs.Planes.{Line, cleared}
use Rattle.picture.proofs.Build.{length_build, get_or-build, build_ext, build_same}
use Rattle.picture.proofs.Planes.{cleared_is}
use Rattle.shift.specs.Bytes.{blank, zeroed}
use Rattle.shift.proofs.Moved.{Where, before, inside, past, find}

module _ (a n x v : ℕ) where
  pub blank_before : x < a → blank a n x v ≡ v
  blank_before l = rw (lt-ltb x a l)

  pub blank_inside : a ≤ x → x < a + n → blank a n x v ≡ 0
  blank_inside l m = rw (le-ltb x a l, lt-ltb x (a + n) m)

  pub blank_past : a + n ≤ x → blank a n x v ≡ v
  blank_past l = rw (le-ltb x a (omega arith), le-ltb x (a + n) l)

module _ (a n : ℕ) (bytes : List ℕ) where
  length_zeroed : length (zeroed a n bytes) ≡ length bytes
  unfolding zeroed
  length_zeroed = length_build (length bytes) _

  zeroed_at : (j : ℕ) → j < length bytes → get_or (zeroed a n bytes) j 0 ≡ blank a n j (get_or bytes j 0)
  unfolding zeroed
  zeroed_at j l = get_or-build (length bytes) _ j l

-- two runs are set to 0, and each byte is then as a rule says
pub ends_zeroed : (n : ℕ) (g : Line) (bytes : List ℕ) (a p b m : ℕ) → length bytes ≡ n →
    ((j : ℕ) → j < n → blank b m j (blank a p j (get_or bytes j 0)) ≡ g j) → zeroed b m (zeroed a p bytes) ≡ build n g
ends_zeroed n g bytes a p b m e h =
    build_ext n g _ (length_zeroed b m (zeroed a p bytes) ∙ length_zeroed a p bytes ∙ e)
    (λ j l.
    zeroed_at b m (zeroed a p bytes) j (omega (arith, length_zeroed a p bytes))
    ∙ ap (blank b m j) (zeroed_at a p bytes j (omega arith))
    ∙ h j l)

-- a run is set to 0, and the rule changes there alone
pub zeroed_is : (n : ℕ) (f g : Line) (a k : ℕ) → ((j : ℕ) → j < a → f j ≡ g j) → ((j : ℕ) → a ≤ j → j < a + k → g j ≡ 0) →
    ((j : ℕ) → a + k ≤ j → j < n → f j ≡ g j) → zeroed a k (build n f) ≡ build n g
unfolding zeroed
zeroed_is n f g a k low mid high = rw length_build (build_same n _ g (λ j l. by_where j l (find k j a)))
  where
    by_where : (j : ℕ) → j < n → Where k j a → blank a k j (get_or (build n f) j 0) ≡ g j
    by_where j l (before h) = blank_before a k j _ h ∙ get_or-build n f j l ∙ low j h
    by_where j l (inside i e h) = blank_inside a k j _ (omega arith) (omega arith) ∙ sym (mid j (omega arith) (omega arith))
    by_where j l (past h) = blank_past a k j _ h ∙ get_or-build n f j l ∙ high j h l

-- past the first of two lists stands the second
after : (p q : List ℕ) (n j : ℕ) → length p ≡ n → get_or (p ++ q) (n + j) 0 ≡ get_or q j 0
after p q n j e = rw (sym e) (get_or-append-add p q j 0)

module _ (bytes : List ℕ) (a n : ℕ) (l : a + n ≤ length bytes) where
  abbrev cut : List ℕ
  cut = take a bytes ++ (replicate n 0 ++ drop n (drop a bytes))

  cut_at : (j : ℕ) → Where n j a → get_or cut j 0 ≡ blank a n j (get_or bytes j 0)
  cut_at j (before h) =
      get_or-append (take a bytes) _ 0 j (omega (arith, length-take-le a bytes (omega arith)))
      ∙ get_or-take a bytes j 0 h
      ∙ sym (blank_before a n j _ h)
  cut_at j (inside i e h) =
      ap (λ (k : ℕ). get_or cut k 0) e
      ∙ after (take a bytes) _ a i (length-take-le a bytes (omega arith))
      ∙ get_or-append (replicate n 0) _ 0 i (omega (arith, length-replicate {A = ℕ} n 0))
      ∙ get_or-replicate n i 0 0 h
      ∙ sym (blank_inside a n j _ (omega arith) (omega arith))
  cut_at j (past h) =
      let i = j - (a + n) in
      let e : j ≡ a + (n + i) = omega arith in
      ap (λ (k : ℕ). get_or cut k 0) e
      ∙ after (take a bytes) _ a (n + i) (length-take-le a bytes (omega arith))
      ∙ after (replicate n 0) _ n i (length-replicate n 0)
      ∙ get_or-drop n (drop a bytes) i 0
      ∙ get_or-drop a bytes (n + i) 0
      ∙ ap (λ (k : ℕ). get_or bytes k 0) (sym e)
      ∙ sym (blank_past a n j _ h)

  -- the part is the whole rest
  pub cleared_run : put_mid a (length bytes - a) bytes (cleared n (mid_of a (length bytes - a) bytes)) ≡ zeroed a n bytes
  unfolding zeroed
  cleared_run =
      let rest : length (drop a bytes) ≡ length bytes - a = length-drop a bytes in
      rw (take_all (length bytes - a) (drop a bytes) (omega arith), cleared_is n (drop a bytes), drop_of_length-le (drop a bytes) {i = length bytes - a} (omega arith), append-nil)
      (build_ext _ _ cut (simp (length-append, length-take-le a bytes (omega arith), length-replicate, length-drop) (omega arith)) (λ j h. cut_at j (find n j a)))
