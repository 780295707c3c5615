-- The examples of the edge rules: those of rules 4.2 and 4.3.
use Rattle.std.proofs.Common.{◌≡◌, ℕ, ◌-◌, ◌*◌, ◌%◌, ◌<◌, ◌≤◌, [], ◌∷◌, pos, negsuc, refl, mod-eq_of_lt, arith, le-ltb, Some}
use Rattle.picture.specs.declared.EdgeMode.TheVariants.{Wrap, Mirror}
use Rattle.edges.specs.Edges.{reflected}
use Rattle.edges.specs.Whole.{place_of}

-- for s = 3, Mirror of 5 is 0 and of -4 is 2; Wrap of -4 is 2
pub three : (place_of Mirror 3 (pos 5) ∷ place_of Mirror 3 (negsuc 3) ∷ place_of Wrap 3 (negsuc 3) ∷ []) ≡ (Some 0 ∷ Some 2 ∷ Some 2 ∷ [])
unfolding place_of
three = refl

past : (s m i : ℕ) → s ≤ m → 2 * s - 1 - m ≡ i → reflected s m ≡ Some i
past s m i h e = simp (le-ltb m s h, e)

module _ (s : ℕ) (l : 0 < s) where
  -- Mirror of -1 is 0 and of s is s - 1
  pub mirror_before : place_of Mirror s (negsuc 0) ≡ Some 0
  unfolding place_of
  mirror_before =
      let e : 0 % (2 * s) ≡ 0 = mod-eq_of_lt (omega arith) in
      past s _ 0 (omega arith) (omega arith)

  pub mirror_after : place_of Mirror s (pos s) ≡ Some (s - 1)
  unfolding place_of
  mirror_after =
      let e : s % (2 * s) ≡ s = mod-eq_of_lt (omega arith) in
      past s _ (s - 1) (omega arith) (omega arith)
