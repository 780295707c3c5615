-- Laws of old pixels put back into their places.
use mathlib.Core.Path.{◌≡◌, refl, sym, ap, ◌∙◌, subst}
use mathlib.Core.Bool.{Bool, true, false, cond}
use mathlib.Core.List.{List, [], ◌∷◌, ◌++◌}
use Prim.Native.Nat.{ℕ, zero, suc, ◌+◌, ◌*◌, ◌≤◌, ◌<◌}
use native.Mathlib.Numerals.{add-one}
use native.Mathlib.Omega.{arith}
use lib.ListN.{length, get_or, drop}
use lib.Seq.{drop-cons}
use Rattle.picture.specs.Planes.{bytes_of, chan}
use Rattle.picture.proofs.Planes.{painted_ext}
use Rattle.pixels.specs.Pixels.{pixel_at, with_pixel}
use Rattle.pixels.specs.Channels.{exceeds_at}
use Rattle.pixels.proofs.Painting.{at, chan_here, Painting, begins, next, turn, ends}
use Rattle.mending.specs.Changes.{mended, change, changes_below}
use Rattle.counting.specs.Words.{unpacked}
use Rattle.rebuilding.specs.Restored.{change_place, old_of, restored}
use Rattle.counting.proofs.Packed.{Bytes, unpacks_at}
use Rattle.mending.proofs.Lowered.{kept, same_pixel, mended_pixel, length_mended}
use Rattle.mending.proofs.Listed.{changes_more}

-- entry i, and the others after it
pub restored_at : (list : List (List ℕ)) (bytes : List ℕ) (i : ℕ) → i < length list → let e = get_or list i [] in
    restored (drop i list) bytes ≡ restored (drop (i + 1) list) (with_pixel bytes (change_place e) (unpacked (old_of e)))
unfolding restored
restored_at list bytes i l = rw (drop-cons list i [] l, add-one i)

-- some entries after others
restored_more : (xs ys : List (List ℕ)) (bytes : List ℕ) → restored (xs ++ ys) bytes ≡ restored ys (restored xs bytes)
unfolding restored
restored_more [] ys bytes = refl
restored_more (x ∷ xs) ys bytes = restored_more xs ys (with_pixel bytes (change_place x) (unpacked (old_of x)))

-- the list of the changes, put back into the mended picture
module _ (w h : ℕ) (p : List ℕ) (fit : Bytes p) where
  abbrev back : ℕ → List ℕ
  back i = restored (changes_below p i) (mended w h p)

  -- the first i pixels are the old ones
  abbrev Back : ℕ → Type 0
  Back i = Painting (at p) (mended w h p) (back i) i (w * h)

  -- pixel i is put back, or was never changed
  one_back : (i : ℕ) → i < w * h → Back i → back (i + 1) ≡ with_pixel (back i) i (pixel_at p i)
  unfolding restored
  one_back i l t = ap (λ (list : List (List ℕ)). restored list (mended w h p)) (changes_more p i) ∙ restored_more (changes_below p i) _ (mended w h p) ∙ by_test (exceeds_at p i) refl
    where
      by_test : (b : Bool) → exceeds_at p i ≡ b → restored (cond b (change i (pixel_at p i) ∷ []) []) (back i) ≡ with_pixel (back i) i (pixel_at p i)
      by_test true e = ap (with_pixel (back i) i) (unpacks_at p fit i)
      by_test false e =
          sym (ap (with_pixel (back i) i) (sym (next t ∙ mended_pixel w h p i l ∙ kept (pixel_at p i) e)) ∙ same_pixel (back i) i)

  all_back : (i : ℕ) → i ≤ w * h → Back i
  unfolding restored changes_below
  all_back zero l = begins
  all_back (suc i) l =
      let t = all_back i (omega arith) in
      subst Back (add-one i) (turn t (pixel_at p i) (omega arith) (omega (arith, t.run.size, length_mended w h p)) (one_back i (omega arith) t) refl)

  -- from the list and the mended picture, the old one
  pub old_back : length p ≡ bytes_of w h → back (w * h) ≡ p
  old_back exact =
      ends (all_back (w * h) (omega arith)) w h (λ c. chan p w c) refl (length_mended w h p) (λ i c l. sym (chan_here p w c i))
      ∙ sym (painted_ext w h (λ c. chan p w c) p exact (λ c x y lc lx ly. refl))
