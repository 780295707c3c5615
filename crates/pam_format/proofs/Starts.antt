-- Laws of bytes that begin with others: byte by byte, and as a whole.
use mathlib.Core.Path.{◌≡◌, refl, sym, ap, ap₂}
use mathlib.Core.Bool.{Bool, true, false, ◌&&◌, true≢false}
use mathlib.Core.List.{List, [], ◌∷◌, ◌++◌}
use Prim.Native.Nat.{ℕ}
use lib.Dec.{eqb}
use lib.ListN.{length, drop}
use borrow.Author.Tests.{eqb-true, eq-eqb}
use Rattle.std.specs.List.{starts_with}
use Rattle.pam_format.specs.Format.{begins_with}

-- the library's test of a slice is this one
pub begins_is : (head file : List ℕ) → starts_with eqb file head ≡ begins_with head file
unfolding begins_with
begins_is [] file = refl
begins_is (b ∷ bs) [] = refl
begins_is (b ∷ bs) (c ∷ cs) = ap (λ (r : Bool). eqb b c && r) (begins_is bs cs)

-- two tests that both hold
pub both : (a b : Bool) → (a && b) ≡ true → (a ≡ true) × (b ≡ true)
both true b e = (refl, e)
both false b e = absurd (true≢false (sym e))

-- what comes after the head is anything
pub starts_own : (head rest : List ℕ) → begins_with head (head ++ rest) ≡ true
unfolding begins_with
starts_own [] rest = refl
starts_own (b ∷ bs) rest = rw (eq-eqb b b refl) (starts_own bs rest)

-- bytes that begin with a head are the head and what comes after it
pub starts_is : (head file : List ℕ) → begins_with head file ≡ true → file ≡ head ++ drop (length head) file
unfolding begins_with
starts_is [] file e = refl
starts_is (b ∷ bs) [] e = absurd (true≢false (sym e))
starts_is (b ∷ bs) (c ∷ cs) e =
    let two = both (eqb b c) (begins_with bs cs) e in
    ap₂ ◌∷◌ (sym (eqb-true b c two.0)) (starts_is bs cs two.1)
