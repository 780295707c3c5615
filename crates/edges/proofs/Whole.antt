-- The edge rules on integers and on pairs of naturals are one, and the definition of modulo is the remainder of division downward.
use Rattle.std.proofs.Common.{◌≡◌, ℕ, zero, suc, ◌+◌, ◌-◌, ◌*◌, ◌/◌, ◌%◌, ◌<◌, Bool, true, false, cond, ltb, ℤ, pos, negsuc, ◌+ℤ◌, ◌*ℤ◌, neg_ℤ, sym, refl, ap, ◌∙◌, mod-lt, suc-mul, add-mul, div-add-mod', arith, ltb-false, ltb-true, le-ltb, lt-ltb, Option, Some}
use lib.IntN.{sub_ℕ}
use lib.Signed.{shr_z}
use Rattle.picture.specs.declared.EdgeMode.{EdgeMode}
use Rattle.picture.specs.declared.EdgeMode.TheVariants.{Duplicate, Wrap, Mirror, None}
use Rattle.edges.specs.Edges.{modulo, reflected, place, Below}
use Rattle.edges.specs.Whole.{inside_else, nearer, modulo_of, place_of, plus, minus}
use Rattle.edges.proofs.Places.{modulo_is, below}

-- the integer that a pair stands for, by its sign
module _ (c d n : ℕ) where
  pub from_zero : c ≡ d + n → sub_ℕ c d ≡ pos n
  from_zero e = simp (le-ltb c d (omega arith)) (ap pos (omega arith))

  pub below_zero : d ≡ c + n + 1 → sub_ℕ c d ≡ negsuc n
  below_zero e = simp (lt-ltb c d (omega arith)) (ap negsuc (omega arith))

-- c - d, by the test that says its sign
abbrev signed : ℕ → ℕ → Bool → ℤ
signed c d t = cond t (negsuc (d - suc c)) (pos (c - d))

inside_signed : (other : ℤ → Option ℕ) (s c d : ℕ) (t : Bool) →
    cond t (other (signed c d true)) (cond (ltb (c - d) s) (Some (c - d)) (other (signed c d false))) ≡ inside_else (other (signed c d t)) s (signed c d t)
inside_signed other s c d true = refl
inside_signed other s c d false = refl

modulo_signed : (n c d : ℕ) → 0 < n → (t : Bool) → ltb c d ≡ t → modulo n c d ≡ modulo_of n (signed c d t)
modulo_signed n c d l true e =
    let k = d - suc c in
    let h = ltb-true c d e in
    modulo_is n c d (n - 1 - k % n) (k / n + 1) 0 (omega arith)
    (omega (arith, mod-lt k l, div-add-mod' k n, add-mul (k / n) 1 n))
modulo_signed n c d l false e =
    let k = c - d in
    let h = ltb-false c d e in
    modulo_is n c d (k % n) 0 (k / n) (mod-lt k l) (omega (arith, div-add-mod' k n))

-- the rule of a pair is the rule of the integer c - d
pub place_is : (mode : EdgeMode) (s c d : ℕ) → 0 < s → place mode s c d ≡ place_of mode s (sub_ℕ c d)
unfolding place place_of
place_is Duplicate s c d z = inside_signed (λ k. Some (nearer s k)) s c d (ltb c d)
place_is Wrap s c d z = ap Some (modulo_signed s c d z (ltb c d) refl)
place_is Mirror s c d z = ap (reflected s) (modulo_signed (2 * s) c d (omega arith) (ltb c d) refl)
place_is None s c d z = inside_signed (λ _. Option.None) s c d (ltb c d)

pair_is : (z : ℤ) → sub_ℕ (plus z) (minus z) ≡ z
pair_is (pos n) = from_zero n 0 n (omega arith)
pair_is (negsuc n) = below_zero 0 (n + 1) n (omega arith)

module _ (mode : EdgeMode) (s : ℕ) (z : ℤ) (l : 0 < s) where
  -- the rule of an integer is the rule of its pair
  pub whole_is : place_of mode s z ≡ place mode s (plus z) (minus z)
  whole_is = rw (place_is mode s (plus z) (minus z) l, pair_is z)

  -- a place is one of the line's elements, or outside
  pub whole_below : Below (place_of mode s z) s
  whole_below = rw whole_is (below mode s (plus z) (minus z) l)

sum_neg : (m x : ℕ) → neg_ℤ (pos x) +ℤ pos m ≡ sub_ℕ m x
sum_neg m zero = sym (from_zero m 0 (0 + m) (omega arith))
sum_neg m (suc x) = refl

-- z modulo n is what is left of z over whole n's, rounded down, ..
pub modulo_rest : (n : ℕ) (z : ℤ) → 0 < n → shr_z z n *ℤ pos n +ℤ pos (modulo_of n z) ≡ z
modulo_rest n (pos k) l = ap pos (div-add-mod' k n)
modulo_rest n (negsuc k) l =
    let m = n - 1 - k % n in
    sum_neg m (suc (k / n) * n)
    ∙ below_zero m (suc (k / n) * n) k (omega (arith, mod-lt k l, div-add-mod' k n, suc-mul (k / n) n))

-- .. and 0 to n - 1
pub modulo_low : (n : ℕ) (z : ℤ) → 0 < n → modulo_of n z < n
modulo_low n (pos k) l = mod-lt k l
modulo_low n (negsuc k) l = omega arith
