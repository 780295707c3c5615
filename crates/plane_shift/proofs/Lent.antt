-- A part of a list that was lent and has come back: what stands before it, in it and after it.
use mathlib.Core.Path.{◌≡◌, sym, ap, ◌∙◌}
use mathlib.Core.List.{List, ◌++◌}
use Prim.Native.Nat.{ℕ, ◌+◌, ◌≤◌, ◌<◌}
use native.Mathlib.Omega.{arith}
use borrow.Rule.Slice.PartMut.{mid_of, post_of, put_mid}
use lib.ListN.{length, get_or, take, drop, get_or-append}
use lib.Seq.{length-take-le, get_or-take, get_or-drop, get_or-append-add}

module _ (a k : ℕ) (xs part : List ℕ) (fits : a + k ≤ length xs) (long : length part ≡ k) where
  before_is : length (take a xs) ≡ a
  before_is = length-take-le a xs (omega arith)

  pub put_before : (j : ℕ) → j < a → get_or (put_mid a k xs part) j 0 ≡ get_or xs j 0
  put_before j l = get_or-append (take a xs) _ 0 j (omega (arith, before_is)) ∙ get_or-take a xs j 0 l

  -- from a on
  from : (j : ℕ) → get_or (put_mid a k xs part) (a + j) 0 ≡ get_or (part ++ post_of a k xs) j 0
  from j = ap (λ (i : ℕ). get_or (put_mid a k xs part) (i + j) 0) (sym before_is) ∙ get_or-append-add (take a xs) _ j 0

  pub put_inside : (j : ℕ) → j < k → get_or (put_mid a k xs part) (a + j) 0 ≡ get_or part j 0
  put_inside j l = from j ∙ get_or-append part _ 0 j (omega arith)

  pub put_after : (j : ℕ) → get_or (put_mid a k xs part) (a + (k + j)) 0 ≡ get_or xs (a + (k + j)) 0
  put_after j =
      from (k + j)
      ∙ ap (λ (i : ℕ). get_or (part ++ post_of a k xs) (i + j) 0) (sym long)
      ∙ get_or-append-add part (post_of a k xs) j 0
      ∙ get_or-drop k (drop a xs) j 0
      ∙ get_or-drop a xs (k + j) 0

  -- what the part was
  pub mid_at : (j : ℕ) → j < k → get_or (mid_of a k xs) j 0 ≡ get_or xs (a + j) 0
  mid_at j l = get_or-take k (drop a xs) j 0 l ∙ get_or-drop a xs j 0
