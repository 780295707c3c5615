-- What each pass does to a relation between two lines, the blur does to one between two planes: one lift for every such statement.
use Prim.Native.Nat.{ℕ, zero, suc}
use Rattle.picture.specs.Planes.{Line, Plane}
use Rattle.picture.specs.Sizes.{half}
use Rattle.passes.specs.Passes.{Pass}
use Rattle.passes.specs.Blur.{both, blur}

-- R relates values at a stage t; each pass moves the stage on
module _ {T : Type 0} (R : T → ℕ → ℕ → Type 0) where
  -- from lines that are related at t, f and g make lines that are related at `next t`
  abbrev pub Moves : (T → T) → Pass → Pass → Type 0
  Moves next f g = (t : T) (s : ℕ) (p q : Line) → ((i : ℕ) → R t (p i) (q i)) → (x : ℕ) → R (next t) (f s p x) (g s q x)

  abbrev pub Related : T → Plane → Plane → Type 0
  Related t p q = (x y : ℕ) → R t (p x y) (q x y)

  both_moves : (next : T → T) (f g : Pass) → Moves next f g → (t : T) (w h : ℕ) (p q : Plane) → Related t p q → Related (next (next t)) (both f w h p) (both g w h q)
  both_moves next f g m t w h p q r x y = m (next t) h _ _ (λ j. m t w _ _ (λ i. r i j) x) y

  module _ (onH onD onC : T → T) where
    -- the stage after n decimations, the convolution and n doublings
    unfoldable pub after : ℕ → T → T
    after zero t = onC (onC t)
    after (suc n) t = onD (onD (after n (onH (onH t))))

    module _ (H D C H' D' C' : Pass) (mh : Moves onH H H') (md : Moves onD D D') (mc : Moves onC C C') where
      pub blur_moves : (n : ℕ) (t : T) (w h : ℕ) (p q : Plane) → Related t p q → Related (after n t) (blur H D C n w h p) (blur H' D' C' n w h q)
      unfolding blur after
      blur_moves zero t w h p q r = both_moves onC C C' mc t w h p q r
      blur_moves (suc n) t w h p q r =
          both_moves onD D D' md _ (half w) (half h) _ _
          (blur_moves n _ (half w) (half h) _ _ (both_moves onH H H' mh t w h p q r))
