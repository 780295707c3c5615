-- One pixel's change: in the sums that hold it, and so in the table's numbers at or below and right of it.
use mathlib.Core.Path.{◌≡◌, ◌∙◌, sym, ap}
use mathlib.Core.List.{List}
use Prim.Native.Nat.{ℕ, ◌+◌, ◌*◌, ◌/◌, ◌%◌, ◌≤◌, ◌<◌}
use native.Mathlib.Nat.{div-add-mod'}
use native.Mathlib.Omega.{arith}
use lib.ListN.{length, get_or, set}
use lib.Seq.{get_or-set_same, get_or-set_other}
use Rattle.picture.specs.Planes.{Plane, chan}
use Rattle.picture.proofs.Planes.{quotient, remainder}
use Rattle.binary32.specs.Taps.{sum_to}
use Rattle.area.specs.Area.{alpha_plane, area, top, less, entry}
use Rattle.area.proofs.Sums.{sum_same, sum_change}

-- planes whose first w columns agree but at x, y
module _ (w : ℕ) (p q : Plane) (x y : ℕ) (same : (i j : ℕ) → i < w → (i ≡ x → j ≡ y → ⊥) → p i j ≡ q i j) where
  -- sums that hold the pixel
  changed : (a b : ℕ) → a ≤ w → x < a → y < b → area p a b + q x y ≡ area q a b + p x y
  changed a b la lx ly =
      let rows = sum_change (λ j. sum_to (λ i. p i j) a) (λ j. sum_to (λ i. q i j) a) y b (λ j _ f. sum_same _ _ a (λ i l. same i j (omega arith) (λ _. f))) ly in
      let row = sum_change (λ i. p i y) (λ i. q i y) x a (λ i l f. same i y (omega arith) (λ e _. f e)) lx in
      omega (arith, rows, row)

  -- sums that do not
  pub kept_above : (a b : ℕ) → a ≤ w → b ≤ y → area p a b ≡ area q a b
  kept_above a b la l = sum_same _ _ b (λ j m. sum_same _ _ a (λ i k. same i j (omega arith) (λ _ e. omega arith)))

  pub kept_left : (a b : ℕ) → a ≤ w → a ≤ x → area p a b ≡ area q a b
  kept_left a b la l = sum_same _ _ b (λ j m. sum_same _ _ a (λ i k. same i j (omega arith) (λ e _. omega arith)))

  -- the table's number: the change added, modulo 2^32
  pub changed_entry : (a b : ℕ) → a ≤ w → x < a → y < b → p x y < top → q x y < top → (entry p a b + less (q x y) (p x y)) % top ≡ entry q a b
  unfolding less
  changed_entry a b la lx ly lp lq = omega (arith, changed a b la lx ly)

-- ---- one alpha of a picture w pixels wide, by its place y·w + x
pub alpha_there : (bytes : List ℕ) (w place : ℕ) → alpha_plane bytes w (place % w) (place / w) ≡ get_or bytes (4 * place + 3) 0
unfolding chan
alpha_there bytes w place = ap (λ (k : ℕ). get_or bytes (4 * k + 3) 0) (div-add-mod' place w)

module _ (bytes : List ℕ) (w place v : ℕ) where
  -- where it is set, ..
  pub alpha_set : 4 * place + 3 < length bytes → alpha_plane (set bytes (4 * place + 3) v) w (place % w) (place / w) ≡ v
  alpha_set l = alpha_there (set bytes (4 * place + 3) v) w place ∙ get_or-set_same bytes (4 * place + 3) v 0 l

  -- .. and every other
  pub alpha_other : (i j : ℕ) → i < w → (i ≡ place % w → j ≡ place / w → ⊥) → alpha_plane bytes w i j ≡ alpha_plane (set bytes (4 * place + 3) v) w i j
  unfolding chan
  alpha_other i j l out =
      sym (get_or-set_other bytes (4 * place + 3) (4 * (j * w + i) + 3) v 0
      (λ e.
      let here : j * w + i ≡ place = omega arith in
      out (sym (remainder w j i l) ∙ ap (λ (k : ℕ). k % w) here) (sym (quotient w j i l) ∙ ap (λ (k : ℕ). k / w) here)))
