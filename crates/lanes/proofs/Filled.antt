-- A part of a list that was lent and has come back filled with one value: a run of that value.
use mathlib.Core.Path.{◌≡◌, sym, ap, ◌∙◌}
use mathlib.Core.List.{List, ◌++◌}
use Prim.Native.Nat.{ℕ, ◌+◌, ◌-◌, ◌≤◌, ◌<◌}
use native.Mathlib.Omega.{arith}
use borrow.Rule.Slice.PartMut.{put_mid, post_of, take_put, drop_put, same_len_mid}
use lib.ListN.{length, get_or, take, drop, replicate, length-take, length-drop, length-replicate, get_or-append, get_or-replicate}
use lib.Seq.{length-take-le, get_or-take, get_or-drop, drop_at}
use Rattle.picture.specs.Spans.{Run}

-- lists whose first elements, or whose last, are the same
front : {A : Type 0} (none : A) (n : ℕ) (l m : List A) → take n l ≡ take n m → (j : ℕ) → j < n → get_or l j none ≡ get_or m j none
front none n l m e j h = sym (get_or-take n l j none h) ∙ ap (λ k. get_or k j none) e ∙ get_or-take n m j none h

rest : {A : Type 0} (none : A) (n : ℕ) (l m : List A) → drop n l ≡ m → (k : ℕ) → get_or l (n + k) none ≡ get_or m k none
rest none n l m e k = sym (get_or-drop n l k none) ∙ ap (λ m. get_or m k none) e

module _ {A : Type 0} (none : A) (d part : List A) (o n : ℕ) (v : A) (l : o + n ≤ length d) (is : part ≡ replicate (length (take (o + n - o) (drop o d))) v) where
  abbrev back : List A
  back = put_mid o (o + n - o) d part

  same : length part ≡ length (take (o + n - o) (drop o d))
  same = ap length is ∙ length-replicate _ v

  long : length part ≡ n
  long = same ∙ simp (length-take, length-drop) (omega arith)

  pub run_filled : Run none d back o n (λ _. v)
  run_filled =
      record {
        size = same_len_mid o (o + n - o) d part same;
        inside = λ k _ h.
            rest none o back (part ++ post_of o (o + n - o) d) (drop_at (take o d) _ o (length-take-le o d (omega arith))) k
            ∙ get_or-append part (post_of o (o + n - o) d) none k (omega (arith, long))
            ∙ ap (λ p. get_or p k none) is
            ∙ get_or-replicate _ k v none (omega (arith, same, long));
        below = λ j h. front none o back d (take_put o (o + n - o) d part (omega arith)) j (omega arith);
        above = λ j h.
            let p : o + n + (j - (o + n)) ≡ j = omega arith in
            ap (λ (i : ℕ). get_or back i none) (sym p)
            ∙ rest none (o + n) back (drop (o + n) d) (drop_put o (o + n) d part (omega arith) l (omega (arith, long))) (j - (o + n))
            ∙ get_or-drop (o + n) d (j - (o + n)) none
            ∙ ap (λ (i : ℕ). get_or d i none) p;
      }
