-- Laws of whole tables: what a built one says at a corner and of a box, and an update, which makes of it the one built afresh.
use mathlib.Core.Path.{◌≡◌, ◌∙◌, sym, ap}
use mathlib.Core.List.{List, ◌++◌}
use mathlib.Core.Logic.{⊎_elim}
use Prim.Native.Nat.{ℕ, ◌+◌, ◌*◌, ◌/◌, ◌%◌, ◌≤◌, ◌<◌}
use native.Mathlib.Nat.{mod-lt, mod-eq_of_lt}
use native.Mathlib.Omega.{arith}
use lib.ListN.{length, get_or, drop}
use lib.Seq.{drop_at}
use Rattle.picture.specs.Build.{build}
use Rattle.picture.specs.Planes.{Plane, laid}
use Rattle.picture.proofs.Build.{length_build, build_same}
use Rattle.picture.proofs.Planes.{quotient, remainder, pixel_fits}
use Rattle.picture.proofs.Spans.{le_or_lt}
use Rattle.area.specs.Area.{box_sum, top, less, entry, built, corner, boxed, largest_box, gained, updated}
use Rattle.area.proofs.Laid.{laid_below, length_laid}
use Rattle.area.proofs.Entries.{rows_le, corner_is}
use Rattle.area_laws.proofs.FourCorners.{box_law, box_fits}
use Rattle.area_updates.proofs.Gains.{gained_not, gained_there}
use Rattle.area_laws.proofs.Changes.{kept_above, kept_left, changed_entry}

module _ (w h : ℕ) (p : Plane) where
  pub built_length : (old : List ℕ) → h * w ≤ length old → length (laid (built w h p) old) ≡ length old
  unfolding built
  built_length old l = length_laid (h * w) _ old l

  -- two tables that are alike past the picture's entries
  pub built_alike : (old other : List ℕ) → drop (h * w) old ≡ drop (h * w) other → laid (built w h p) old ≡ laid (built w h p) other
  unfolding laid built
  built_alike old other e =
      let n : length (build (h * w) (λ k. entry p (k % w + 1) (k / w + 1))) ≡ h * w = length_build (h * w) _ in
      ap (λ (l : List ℕ). build (h * w) (λ k. entry p (k % w + 1) (k / w + 1)) ++ l) (rw n e)

  -- entry y·w + x of a lent table that the picture's was built in
  pub entry_at_lem : (old : List ℕ) (x y : ℕ) → x < w → y < h → get_or (laid (built w h p) old) (y * w + x) 0 ≡ entry p (x + 1) (y + 1)
  unfolding built
  entry_at_lem old x y lx ly =
      laid_below (h * w) _ old (y * w + x) (pixel_fits w h x y lx ly) ∙ rw (remainder w y x lx, quotient w y x lx)

  corner_built : (old : List ℕ) (x y : ℕ) → x ≤ w → y ≤ h → corner (laid (built w h p) old) w x y ≡ entry p x y
  unfolding built
  corner_built old x y lx ly = corner_is p (laid (built w h p) old) w x y lx (λ k l. laid_below (h * w) (λ i. entry p (i % w + 1) (i / w + 1)) old k (omega (arith, rows_le w y h ly)))

  -- a box of it, modulo 2^32, ..
  box_built : (old : List ℕ) (x y wide high : ℕ) → x + wide ≤ w → y + high ≤ h → boxed (laid (built w h p) old) w x y wide high ≡ box_sum p x y wide high % top
  unfolding boxed
  box_built old x y wide high lx ly =
      rw (
        corner_built old (x + wide) (y + high) lx ly,
        corner_built old x (y + high) (omega arith) ly,
        corner_built old (x + wide) y lx (omega arith),
        corner_built old x y (omega arith) (omega arith),
      )
      (box_law p x y wide high)

  -- .. and of at most so many bytes the plain sum
  pub box_is_sum : ((i j : ℕ) → p i j ≤ 255) → (old : List ℕ) (x y wide high : ℕ) → x + wide ≤ w → y + high ≤ h → wide * high ≤ largest_box →
      boxed (laid (built w h p) old) w x y wide high ≡ box_sum p x y wide high
  box_is_sum byte old x y wide high lx ly few = box_built old x y wide high lx ly ∙ mod-eq_of_lt (box_fits p x y wide high few byte)

-- laid over as many entries as were laid before
laid_again : (new mid old : List ℕ) → length new ≡ length mid → laid new (laid mid old) ≡ laid new old
unfolding laid
laid_again new mid old e =
    ap (λ (l : List ℕ). new ++ l) (drop_at mid (drop (length mid) old) (length new) (sym e) ∙ ap (λ (n : ℕ). drop n old) (sym e))

-- of planes whose columns agree but at x, y: the table built of the one, updated there, is the table built of the other
module _ (w h : ℕ) (p q : Plane) (x y : ℕ) (same : (i j : ℕ) → i < w → (i ≡ x → j ≡ y → ⊥) → p i j ≡ q i j) (old : List ℕ) where
  abbrev first : List ℕ
  first = laid (built w h p) old

  module _ (pos : 0 < w) (lp : p x y < top) (lq : q x y < top) where
    each : (k : ℕ) → k < h * w → gained first w x y (less (q x y) (p x y)) k ≡ entry q (k % w + 1) (k / w + 1)
    unfolding built
    each k l =
        let wide : k % w + 1 ≤ w = omega (arith, mod-lt k pos) in
        let is = laid_below (h * w) (λ i. entry p (i % w + 1) (i / w + 1)) old k l in
        let gain = less (q x y) (p x y) in
        ⊎_elim
        (λ (u : x ≤ k % w).
        ⊎_elim
        (λ (v : y ≤ k / w).
        gained_there first w x y gain k u v
        ∙ ap (λ (n : ℕ). (n + gain) % top) is
        ∙ changed_entry w p q x y same (k % w + 1) (k / w + 1) wide (omega arith) (omega arith) lp lq)
        (λ (v : k / w < y).
        gained_not first w x y gain k (λ _ b. omega arith)
        ∙ is
        ∙ ap (λ (n : ℕ). n % top) (kept_above w p q x y same (k % w + 1) (k / w + 1) wide (omega arith)))
        (le_or_lt y (k / w)))
        (λ (u : k % w < x).
        gained_not first w x y gain k (λ a _. omega arith)
        ∙ is
        ∙ ap (λ (n : ℕ). n % top) (kept_left w p q x y same (k % w + 1) (k / w + 1) wide (omega arith)))
        (le_or_lt x (k % w))

    pub afresh : updated first w h x y (p x y) (q x y) ≡ laid (built w h q) old
    unfolding built updated
    afresh =
        laid_again _ (build (h * w) (λ k. entry p (k % w + 1) (k / w + 1))) old (length_build (h * w) _ ∙ sym (length_build (h * w) _))
        ∙ ap (λ (l : List ℕ). laid l old) (build_same (h * w) _ _ each)
