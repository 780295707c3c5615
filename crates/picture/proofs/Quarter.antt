-- A length against four times a product, with no product that could be too large.
use mathlib.Core.Path.{◌≡◌}
use Prim.Native.Nat.{ℕ, ◌*◌, ◌/◌, ◌%◌, ◌<◌, ◌≤◌}
use native.Mathlib.Nat.{mul-le-mul}
use native.Mathlib.Omega.{arith}
use lib.Dec.{ltb, eqb}
use borrow.Author.Tests.{ltb-true, lt-ltb, eqb-true, eq-eqb}
use Rattle.picture.proofs.Tests.{same_test}

pub ltb_quarter : (n m : ℕ) → ltb (n / 4) m ≡ ltb n (4 * m)
ltb_quarter n m =
    same_test _ _ (λ t. let h = ltb-true (n / 4) m t in lt-ltb n (4 * m) (omega arith)) (λ t. let h = ltb-true n (4 * m) t in lt-ltb (n / 4) m (omega arith))

pub eqb_quarter : (n m : ℕ) → n % 4 ≡ 0 → eqb (n / 4) m ≡ eqb n (4 * m)
eqb_quarter n m z =
    same_test _ _ (λ t. let h = eqb-true (n / 4) m t in eq-eqb n (4 * m) (omega arith)) (λ t. let h = eqb-true n (4 * m) t in eq-eqb (n / 4) m (omega arith))

-- any two sides: their product fits 64 bits
pub area : (w h : ℕ) → w < 4294967296 → h < 4294967296 → w * h ≤ 18446744065119617025
area w h a b = mul-le-mul {n₁ = w} {m₁ = h} {n₂ = 4294967295} {m₂ = 4294967295} (omega arith) (omega arith)
