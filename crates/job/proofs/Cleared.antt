-- Clearing keeps a work buffer's length, and clearing twice clears the larger of the two parts.
use mathlib.Core.Path.{◌≡◌, ap}
use mathlib.Core.List.{List, [], ◌∷◌}
use Prim.Native.Nat.{ℕ, zero, suc, max, ◌≤◌}
use native.Mathlib.Omega.{arith}
use lib.ListN.{length, length-append, length-replicate, length-drop}
use Rattle.picture.specs.Planes.{cleared, laid}

pub length_cleared : (n : ℕ) (work : List ℕ) → n ≤ length work → length (cleared n work) ≡ length work
unfolding cleared laid
length_cleared n work l = simp (length-append, length-replicate, length-drop) (omega arith)

pub cleared_twice : (n m : ℕ) (work : List ℕ) → n ≤ length work → m ≤ length work → cleared m (cleared n work) ≡ cleared (max n m) work
unfolding cleared laid
cleared_twice zero m work a b = let e : max 0 m ≡ m = omega arith in rw e
cleared_twice (suc n) zero work a b = let e : max (suc n) 0 ≡ suc n = omega arith in rw e
cleared_twice (suc n) (suc m) [] a b = absurd (omega arith)
cleared_twice (suc n) (suc m) (x ∷ work) a b =
    let e : max (suc n) (suc m) ≡ suc (max n m) = omega arith in
    rw e (ap (λ (l : List ℕ). 0 ∷ l) (cleared_twice n m work (omega arith) (omega arith)))
