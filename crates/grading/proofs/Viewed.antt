-- What a view answers: the one that is made of a picture has the picture's pixels, and a refused one four zeros everywhere.
use mathlib.Core.Path.{◌≡◌, ◌∙◌, refl, sym}
use mathlib.Core.Bool.{Bool, true, false}
use mathlib.Core.List.{List, []}
use Prim.Native.Nat.{ℕ}
use lib.IntN.{ℤ}
use denote.Ref.{Bor}
use Rattle.picture.specs.Refusal.{first_else, first_of, zero_or_above, wrong_sides}
use Rattle.picture.specs.declared.Pixel.{Pixel}
use Rattle.grading.specs.Sampling.{view_refusal, accepts, clear, sampled, Seen, viewed}

pub refused_clear : (bytes : List ℕ) (w h edge : ℕ) (x y : ℤ) → accepts bytes w h edge ≡ false → sampled bytes w h edge x y ≡ clear
unfolding sampled
refused_clear bytes w h edge x y r = rw r

abbrev pub seen_sampled : Seen → ℤ → ℤ → Pixel
seen_sampled v x y = sampled v.part.bytes v.w v.h v.edge x y

-- a picture of 0 by 0 is refused
none_refused : (edge : ℕ) → accepts [] 0 0 edge ≡ false
unfolding view_refusal first_of first_else wrong_sides zero_or_above
none_refused edge = refl

pub viewed_sampled : (picture : Bor (List ℕ)) (w h edge : ℕ) (x y : ℤ) → seen_sampled (viewed picture w h edge) x y ≡ sampled picture.now w h edge x y
unfolding viewed
viewed_sampled picture w h edge x y = by_test (accepts picture.now w h edge) refl
  where
    by_test : (b : Bool) → accepts picture.now w h edge ≡ b → seen_sampled (viewed picture w h edge) x y ≡ sampled picture.now w h edge x y
    by_test true e = rw e
    by_test false e = rw e (refused_clear [] 0 0 edge x y (none_refused edge) ∙ sym (refused_clear picture.now w h edge x y e))
