-- Each check as a proposition beside its Bool: it does not refuse exactly where its condition holds.
use mathlib.Core.Path.{◌≡◌, refl}
use mathlib.Core.Bool.{Bool, false, ◌||◌}
use mathlib.Core.List.{List, [], ◌∷◌}
use mathlib.Core.Logic.{◌↔◌}
use Prim.Native.Nat.{ℕ, ◌≤◌, ◌<◌}
use native.Mathlib.Omega.{arith}
use lib.Dec.{eqb, ltb}
use borrow.Author.Tests.{eqb-true, eqb-false, eq-eqb, ne_eqb, ltb-false, le-ltb, not-false}
use Rattle.picture.specs.Planes.{bytes_of}
use Rattle.picture.specs.Sizes.{max_side}
use Rattle.picture.specs.Refusal.{Check, first_else, first_of, zero_or_above, sides_outside, wrong_sides, wrong_length, too_short, max_taps, wrong_taps, max_decimations, too_deep, wrong_edge}
use Rattle.picture.proofs.Tests.{neither}
use Rattle.picture.proofs.Passed.{passed}

-- ---- a list of checks: its number is 0 exactly where each of them passes
abbrev pub EachPasses : List Check → Type 0
EachPasses [] = Unit {0}
EachPasses (k ∷ ks) = (k.refuses ≡ false) × EachPasses ks

-- no check has the number 0, which means that none refused
abbrev pub Numbered : List Check → Type 0
Numbered [] = Unit {0}
Numbered (k ∷ ks) = (0 < k.number) × Numbered ks

pub each_passes : (ks : List Check) → Numbered ks → (0 ≡ first_of ks) ↔ EachPasses ks
unfolding first_of first_else
each_passes [] n = (λ _. tt, λ _. refl)
each_passes (k ∷ ks) n =
    (λ e. let p = passed k ks n.0 e in (p.0, (each_passes ks n.1).0 p.1), λ p. rw p.0 ((each_passes ks n.1).1 p.1))

-- ---- each check
-- a count from 1 to the most there may be
pub record Counted (most count : ℕ) : Type 0 where
  pub low : 1 ≤ count
  pub high : count ≤ most

-- two checks in one pass where both do
pub both_pass : {a b : Bool} {P Q : Type 0} → (a ≡ false) ↔ P → (b ≡ false) ↔ Q → ((a || b) ≡ false) ↔ (P × Q)
both_pass {a} {b} p q = (λ e. let n = neither a b e in (p.0 n.0, q.0 n.1), λ both. rw (p.1 both.0) (q.1 both.1))

at_most : (most count : ℕ) → (ltb most count ≡ false) ↔ (count ≤ most)
at_most most count = (ltb-false most count, le-ltb most count)

counted : (most count : ℕ) → (zero_or_above most count ≡ false) ↔ Counted most count
unfolding zero_or_above
counted most count =
    let two = both_pass (eqb-false count 0, ne_eqb count 0) (at_most most count) in
    (λ e. let t = two.0 e in record { low = above t.0; high = t.1 }, λ c. two.1 (λ z. omega (arith, z, c.low), c.high))
  where
    above : (count ≡ 0 → ⊥) → 1 ≤ count
    above f = omega arith

-- both sides are from 1 to the largest there may be
pub sides_inside : (most w h : ℕ) → (sides_outside most w h ≡ false) ↔ (Counted most w × Counted most h)
sides_inside most w h = both_pass (counted most w) (counted most h)

-- 1: to the largest side
pub right_sides : (w h : ℕ) → (wrong_sides w h ≡ false) ↔ (Counted max_side w × Counted max_side h)
unfolding wrong_sides
right_sides w h = sides_inside max_side w h

-- 2: exactly 4wh bytes
pub right_length : (len w h : ℕ) → (wrong_length len w h ≡ false) ↔ (len ≡ bytes_of w h)
unfolding wrong_length
right_length len w h = (λ e. eqb-true len (bytes_of w h) (not-false (eqb len (bytes_of w h)) e), λ e. rw (eq-eqb len (bytes_of w h) e))

-- 3: at least 4wh bytes
pub long_enough : (len w h : ℕ) → (too_short len w h ≡ false) ↔ (bytes_of w h ≤ len)
unfolding too_short
long_enough len w h = at_most len (bytes_of w h)

-- 4: from 1 tap to the most
pub right_taps : (count : ℕ) → (wrong_taps count ≡ false) ↔ Counted max_taps count
unfolding wrong_taps
right_taps count = counted max_taps count

-- 6: at most the most decimations
pub shallow_enough : (n : ℕ) → (too_deep n ≡ false) ↔ (n ≤ max_decimations)
unfolding too_deep
shallow_enough n = at_most max_decimations n

-- 9: 0, 1, 2 or 3
pub right_edge : (number : ℕ) → (wrong_edge number ≡ false) ↔ (number ≤ 3)
unfolding wrong_edge
right_edge number = at_most 3 number
