-- A relation between the values of two lines that their samples and one weighted sum of four of them keep is kept by halving and doubling,
-- and so by the blur around any two convolutions that keep it.
use mathlib.Core.Path.{◌≡◌}
use mathlib.Core.Bool.{Bool, true, false, cond}
use Prim.Native.Nat.{ℕ, ◌+◌, ◌-◌, ◌*◌, ◌/◌, ◌%◌, ◌<◌, min}
use native.Mathlib.Omega.{arith}
use lib.Dec.{eqb}
use Rattle.picture.specs.Planes.{Line, Plane}
use Rattle.picture.specs.declared.EdgeMode.{EdgeMode}
use Rattle.edges.specs.Edges.{sample}
use Rattle.passes.specs.Passes.{Pass, halve, double}
use Rattle.passes.specs.Blur.{blur}
use Rattle.passes.proofs.Relates.{blur_moves}
use Rattle.passes.proofs.Local.{Local, halve_local, double_local, blur_local}

-- what halving makes of four samples; doubling makes the same of two, each taken twice
abbrev pub eighth : ℕ → ℕ → ℕ → ℕ → ℕ
eighth a b c d = (a + 3 * b + 3 * c + d + 4) / 8

-- a plane that beyond its sides is as it is at them
abbrev held_inside : ℕ → ℕ → Plane → Plane
held_inside w h p x y = p (min x (w - 1)) (min y (h - 1))

module _ (R : ℕ → ℕ → Type 0) where
  -- of lines that are related, f and g make lines that are related
  abbrev pub Carries : Pass → Pass → Type 0
  Carries f g = (s : ℕ) (p q : Line) → ((i : ℕ) → R (p i) (q i)) → (x : ℕ) → R (f s p x) (g s q x)

  -- their samples by an edge rule are related
  abbrev pub Sampled : EdgeMode → Type 0
  Sampled mode = (s : ℕ) (p q : Line) → ((i : ℕ) → R (p i) (q i)) → (c d : ℕ) → R (sample mode s p c d) (sample mode s q c d)

  -- and so is what is made of four values
  abbrev pub Eighths : Type 0
  Eighths = (a b c d a' b' c' d' : ℕ) → R a a' → R b b' → R c c' → R d d' → R (eighth a b c d) (eighth a' b' c' d')

  either : (z : Bool) (a b c d : ℕ) → R a b → R c d → R (cond z a c) (cond z b d)
  either true a b c d p q = p
  either false a b c d p q = q

  module _ (mode : EdgeMode) (at : Sampled mode) (eighths : Eighths) where
    halve_carries : Carries (halve mode) (halve mode)
    unfolding halve
    halve_carries s p q r x = eighths _ _ _ _ _ _ _ _ (at s p q r (2 * x) 1) (at s p q r (2 * x) 0) (at s p q r (2 * x + 1) 0) (at s p q r (2 * x + 2) 0)

    -- a quarter of one value and three quarters of another
    quarters : (a b a' b' v v' : ℕ) → v ≡ eighth a b b a → v' ≡ eighth a' b' b' a' → R a a' → R b b' → R v v'
    quarters a b a' b' v v' e e' p q = rw (e, e') (eighths a b b a a' b' b' a' p q q p)

    double_carries : Carries (double mode) (double mode)
    unfolding double
    double_carries s p q r y =
        let before = at s p q r (y / 2) 1 in
        let here = at s p q r (y / 2) 0 in
        let after = at s p q r (y / 2 + 1) 0 in
        either (eqb (y % 2) 0) _ _ _ _ (quarters _ _ _ _ _ _ (omega arith) (omega arith) before here) (quarters _ _ _ _ _ _ (omega arith) (omega arith) after here)

    -- the blur, of planes that are related everywhere
    pub blur_carries : (C C' : Pass) → Carries C C' → (n w h : ℕ) (p q : Plane) → ((x y : ℕ) → R (p x y) (q x y)) →
        (x y : ℕ) → R (blur (halve mode) (double mode) C n w h p x y) (blur (halve mode) (double mode) C' n w h q x y)
    blur_carries C C' k n w h p q r =
        blur_moves (λ (_ : Bool). R) (λ t. t) (λ t. t) (λ t. t) _ _ C _ _ C' (λ _. halve_carries) (λ _. double_carries) (λ _. k) n true w h p q r

    -- and of planes that are related inside, since no pass looks further
    pub blur_inside : (C C' : Pass) → Local C → Local C' → Carries C C' → (n w h : ℕ) → 0 < w → 0 < h → (p q : Plane) →
        ((x y : ℕ) → x < w → y < h → R (p x y) (q x y)) →
        (x y : ℕ) → R (blur (halve mode) (double mode) C n w h p x y) (blur (halve mode) (double mode) C' n w h q x y)
    blur_inside C C' l l' k n w h zw zh p q r x y =
        rw (inside C l p, inside C' l' q)
        (blur_carries C C' k n w h (held_inside w h p) (held_inside w h q) (λ u v. r (min u (w - 1)) (min v (h - 1)) (omega arith) (omega arith)) x y)
      where
        held : (o : Plane) (u v : ℕ) → u < w → v < h → o u v ≡ held_inside w h o u v
        held o u v lu lv =
            let a : min u (w - 1) ≡ u = omega arith in
            let b : min v (h - 1) ≡ v = omega arith in
            rw (a, b)

        inside : (F : Pass) → Local F → (o : Plane) →
            blur (halve mode) (double mode) F n w h o x y ≡ blur (halve mode) (double mode) F n w h (held_inside w h o) x y
        inside F f o = blur_local _ _ F (halve_local mode) (double_local mode) f n w h o (held_inside w h o) zw zh (held o) x y
