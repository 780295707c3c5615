-- What a walk in place has made so far: its rule where it is done, and the list as it was elsewhere.
use mathlib.Core.Path.{◌≡◌, refl, sym, ◌∙◌}
use mathlib.Core.Bool.{Bool, true, false, cond}
use mathlib.Core.List.{List}
use Prim.Native.Nat.{ℕ, ◌≤◌, ◌<◌}
use lib.Dec.{ltb}
use lib.ListN.{length}
use borrow.Author.Tests.{lt-ltb, le-ltb, ltb-true, ltb-false}
use Rattle.picture.specs.Build.{build}
use Rattle.picture.specs.Planes.{Line}
use Rattle.picture.proofs.Build.{build_ext, build_same}
use Rattle.picture.specs.Buffers.{line_of}

-- f below i, and g from there on
abbrev pub up_to : ℕ → Line → Line → Line
up_to i f g j = cond (ltb j i) (f j) (g j)

module _ (f g : Line) where
  pub upto_below : (i j : ℕ) → j < i → up_to i f g j ≡ f j
  upto_below i j l = rw (lt-ltb j i l)

  pub upto_from : (i j : ℕ) → i ≤ j → up_to i f g j ≡ g j
  upto_from i j l = rw (le-ltb j i l)

  -- a rule that f obeys below i, and g from there on
  upto_is : (r : Line) (i j : ℕ) → (j < i → f j ≡ r j) → (i ≤ j → g j ≡ r j) → up_to i f g j ≡ r j
  upto_is r i j u v = by_test (ltb j i) refl
    where
      by_test : (t : Bool) → ltb j i ≡ t → up_to i f g j ≡ r j
      by_test true t = let l = ltb-true j i t in upto_below i j l ∙ u l
      by_test false t = let l = ltb-false j i t in upto_from i j l ∙ v l

-- a walk that makes `to` of the list `old`: what it has made once the places below i are done
module _ (old : List ℕ) (to : Line) where
  abbrev pub done_below : ℕ → List ℕ
  done_below i = build (length old) (up_to i to (line_of old))

  -- nothing is done: where the walk has been, it leaves what was there
  pub below_none : (i : ℕ) → ((j : ℕ) → j < i → to j ≡ line_of old j) → old ≡ done_below i
  below_none i h = build_ext _ _ old refl (λ j l. sym (upto_is to (line_of old) (line_of old) i j (h j) (λ _. refl)))

  -- all is done: what is left stays as it was
  pub below_done : (i : ℕ) → ((j : ℕ) → i ≤ j → j < length old → to j ≡ line_of old j) → done_below i ≡ build (length old) to
  below_done i h = build_same (length old) _ to (λ j l. upto_is to (line_of old) to i j (λ _. refl) (λ m. sym (h j m l)))
