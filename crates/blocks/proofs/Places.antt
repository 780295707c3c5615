-- Laws of places: which element and which lane of it a byte is, and where a region of elements lies.
use mathlib.Core.Path.{◌≡◌, ap, ◌∙◌}
use Prim.Native.Nat.{ℕ, ◌+◌, ◌*◌, ◌/◌, ◌%◌, ◌≤◌, ◌<◌}
use native.Mathlib.Nat.{add-mul, add_assoc, mod-eq_of_lt, div-eq_of_lt, div-add-mod', div-lt_iff_lt-mul, le-div_iff_mul-le, mul-add-div_right, mul-add-mod_self_right}
use native.Mathlib.Omega.{arith}
use Rattle.picture.proofs.Planes.{quotient, remainder}

-- the bytes of the elements x up to x + m
module _ (stride x m : ℕ) (z : 0 < stride) where
  pub whole_place : (j : ℕ) → x ≤ j / stride → j / stride < x + m → (x * stride ≤ j) × (j < x * stride + m * stride)
  whole_place j l h = ((le-div_iff_mul-le z).0 l, omega (arith, (div-lt_iff_lt-mul z).0 h, add-mul x m stride))

  pub whole_at : (i : ℕ) → ((x * stride + i) / stride ≡ x + (0 + i / stride)) × ((x * stride + i) % stride ≡ 0 + i % stride)
  whole_at i = (mul-add-div_right z x i ∙ omega arith, mul-add-mod_self_right x stride i ∙ omega arith)

-- the bytes of n lanes, from lane `from` on, of element x + r
module _ (stride x r from n : ℕ) (f : from + n ≤ stride) where
  pub strip_place : (j : ℕ) → j / stride ≡ x + r → from ≤ j % stride → j % stride < from + n → ((x + r) * stride + from ≤ j) × (j < (x + r) * stride + from + n)
  strip_place j e l h = let p = div-add-mod' j stride in let q = ap (λ (k : ℕ). k * stride) e in (omega arith, omega arith)

  pub strip_at : (i : ℕ) → i < n → (((x + r) * stride + from + i) / stride ≡ x + (r + i / n)) × (((x + r) * stride + from + i) % stride ≡ from + i % n)
  strip_at i h =
      let s : from + i < stride = omega arith in
      rw (add_assoc, quotient stride (x + r) (from + i) s, remainder stride (x + r) (from + i) s, div-eq_of_lt h, mod-eq_of_lt h) (omega arith, omega arith)
