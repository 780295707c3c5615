-- Laws of lists given by a rule for each index.
use mathlib.Core.Path.{◌≡◌, refl, ap, ◌∙◌}
use mathlib.Core.List.{List, [], ◌∷◌, ◌++◌, append_assoc}
use Prim.Native.Nat.{ℕ, zero, suc, ◌+◌, ◌<◌}
use native.Mathlib.Numerals.{add-one}
use native.Mathlib.Omega.{arith}
use lib.ListN.{length, get_or, drop, set}
use lib.Seq.{ext_get_or, drop-cons, set_at, get_or_at}
use Rattle.picture.specs.Build.{build}

pub length_build : (n : ℕ) (f : ℕ → ℕ) → length (build n f) ≡ n
unfolding build
length_build zero f = refl
length_build (suc n) f = ap suc (length_build n (λ i. f (suc i)))

pub get_or-build : (n : ℕ) (f : ℕ → ℕ) (i : ℕ) → i < n → get_or (build n f) i 0 ≡ f i
unfolding build
get_or-build zero f i h = absurd (omega arith)
get_or-build (suc n) f zero h = refl
get_or-build (suc n) f (suc i) h = get_or-build n (λ j. f (suc j)) i (omega arith)

-- a list that has n elements and obeys the rule at each
pub build_ext : (n : ℕ) (f : ℕ → ℕ) (l : List ℕ) → length l ≡ n → ((i : ℕ) → i < n → get_or l i 0 ≡ f i) → l ≡ build n f
build_ext n f l e h =
    ext_get_or 0 l (build n f) (rw length_build e)
    (λ i lt. let lt' : i < n = omega arith in rw get_or-build (h i lt'))

-- two rules that agree
pub build_same : (n : ℕ) (f g : ℕ → ℕ) → ((i : ℕ) → i < n → f i ≡ g i) → build n f ≡ build n g
build_same n f g h = build_ext n g (build n f) (length_build n f) (λ i l. get_or-build n f i l ∙ h i l)

build_suc : (n : ℕ) (f : ℕ → ℕ) → build (suc n) f ≡ build n f ++ (f n ∷ [])
unfolding build
build_suc zero f = refl
build_suc (suc n) f = ap (λ (l : List ℕ). f 0 ∷ l) (build_suc n (λ i. f (suc i)))

module _ (f : ℕ → ℕ) (p : List ℕ) (i : ℕ) (h : i < length p) where
  -- one more element is stored: what a loop that fills from the front does in a turn
  pub build_more : set (build i f ++ drop i p) i (f i) ≡ build (i + 1) f ++ drop (i + 1) p
  build_more =
      rw (drop-cons p i 0 h, set_at (build i f) (get_or p i 0) (drop (suc i) p) (f i) i (length_build i f), add-one, build_suc i f)
      (rw (append_assoc (build i f) (f i ∷ []) (drop (suc i) p)))

  -- what the turn reads is what came in
  pub build_next : get_or (build i f ++ drop i p) i 0 ≡ get_or p i 0
  build_next =
      rw (drop-cons p i 0 h, get_or_at (build i f) (get_or p i 0) (drop (suc i) p) 0 i (length_build i f))
