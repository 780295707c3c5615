-- Lines of one element that become one element each: one line of one element, of all their bytes, becomes the same.
use mathlib.Core.Path.{◌≡◌, ◌∙◌, sym, ap}
use mathlib.Core.List.{List}
use mathlib.Core.Logic.{⊎_elim}
use Prim.Native.Nat.{ℕ, ◌+◌, ◌*◌, ◌/◌, ◌%◌, ◌<◌}
use native.Mathlib.Nat.{mul-zero, mod-lt, div-add-mod', div-lt_iff_lt-mul, eq-zero-or-pos, zero-mul}
use native.Mathlib.Omega.{arith}
use lib.ListN.{get_or}
use lib.Seq.{ext_get_or}
use Rattle.passes.specs.Passes.{Pass}
use Rattle.passes.specs.Written.{passed}
use Rattle.passes.proofs.Local.{Local}
use Rattle.passes.proofs.Planes.{at, length_passed}
use Rattle.passes.proofs.Written.{passed_at}

-- byte i of lines of one element, from its line and its place there
place : (stride i j : ℕ) → j < 1 → i / stride * (1 * stride) + j * stride + i % stride ≡ i
place stride i j l = let z : j ≡ 0 = omega arith in rw z (omega (arith, div-add-mod' i stride, zero-mul stride))

-- what lies within a groups of b bytes says that b is some
positive : (a b i : ℕ) → i < a * b → 0 < b
positive a b i l = ⊎_elim (λ z. absurd (omega (arith, ap (λ (k : ℕ). a * k) z, mul-zero a))) (λ p. p) (eq-zero-or-pos b)

module _ (f : Pass) (l : Local f) (src : List ℕ) where
  -- each byte is made of the one in its place
  byte : (lines stride i : ℕ) → i < lines * stride → get_or (passed f src lines 1 1 stride) i 0 ≡ f 1 (λ _. get_or src i 0) 0
  byte lines stride i h =
      let pos : 0 < stride = positive lines stride i h in
      at (passed f src lines 1 1 stride) (sym (place stride i 0 (omega arith)))
      ∙ passed_at f src lines 1 1 stride (i / stride) 0 (i % stride) ((div-lt_iff_lt-mul pos).1 h) (omega arith) (mod-lt i pos)
      ∙ l 1 _ _ (omega arith) (λ j lj. at src (place stride i j lj)) 0

  pub one_wide : (lines stride : ℕ) → passed f src lines 1 1 stride ≡ passed f src 1 1 1 (lines * stride)
  one_wide lines stride =
      ext_get_or 0 _ _ (length_passed f src lines 1 1 stride ∙ omega arith ∙ sym (length_passed f src 1 1 1 (lines * stride)))
      (λ i h.
      let b : i < lines * stride = omega (arith, length_passed f src lines 1 1 stride) in
      byte lines stride i b ∙ sym (byte 1 (lines * stride) i (omega arith)))
