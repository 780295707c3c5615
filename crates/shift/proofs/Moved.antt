-- Laws of a moved line, by where x - d lies: before the line, inside it or past it.
use mathlib.Core.Path.{◌≡◌, refl, sym, ◌∙◌}
use mathlib.Core.Bool.{Bool, true, false}
use Prim.Native.Nat.{ℕ, ◌+◌, ◌-◌, ◌≤◌, ◌<◌}
use native.Mathlib.Omega.{arith}
use lib.Dec.{ltb}
use borrow.Author.Tests.{lt-ltb, le-ltb, ltb-true, ltb-false}
use Rattle.picture.specs.Planes.{Line, Plane}
use Rattle.picture.specs.declared.EdgeMode.TheVariants.{None}
use Rattle.edges.specs.Edges.{place, sample}
use Rattle.edges.proofs.Samples.{sample_near}
use Rattle.binary32.specs.declared.Offset.{Offset}
use Rattle.shift.specs.Shift.{moved, shifted}
use Rattle.shift.specs.Bytes.{OneWay}

-- where c - d lies, of a line of s elements
pub data Where (s c d : ℕ) : Type 0 where
  before : c < d → Where s c d
  inside : (i : ℕ) → c ≡ d + i → i < s → Where s c d
  past : d + s ≤ c → Where s c d

pub find : (s c d : ℕ) → Where s c d
find s c d = by_tests (ltb c d) (ltb (c - d) s) refl refl
  where
    by_tests : (t u : Bool) → ltb c d ≡ t → ltb (c - d) s ≡ u → Where s c d
    by_tests true u e f = before (ltb-true c d e)
    by_tests false true e f = let l = ltb-false c d e in inside (c - d) (omega arith) (ltb-true (c - d) s f)
    by_tests false false e f = let l = ltb-false c d e in let m = ltb-false (c - d) s f in past (omega arith)

module _ (d : Offset) (s : ℕ) (line : Line) (x : ℕ) where
  pub from_before : x + d.minus < d.plus → moved d s line x ≡ 0
  unfolding moved sample place
  from_before l = simp (lt-ltb (x + d.minus) d.plus l)

  pub from_inside : (i : ℕ) → x + d.minus ≡ d.plus + i → i < s → moved d s line x ≡ line i
  unfolding moved
  from_inside i e l = sample_near None s line (x + d.minus) d.plus i e l

  pub from_past : d.plus + s ≤ x + d.minus → moved d s line x ≡ 0
  unfolding moved sample place
  from_past l = simp (le-ltb (x + d.minus) d.plus (omega arith), le-ltb (x + d.minus - d.plus) s (omega arith))

  -- a value that is the line's where x - d lies inside, else 0
  pub moved_is : (v : ℕ) → (x + d.minus < d.plus → v ≡ 0) → ((i : ℕ) → x + d.minus ≡ d.plus + i → i < s → v ≡ line i) →
      (d.plus + s ≤ x + d.minus → v ≡ 0) → v ≡ moved d s line x
  moved_is v f g k = by_where (find s (x + d.minus) d.plus)
    where
      by_where : Where s (x + d.minus) d.plus → v ≡ moved d s line x
      by_where (before l) = f l ∙ sym (from_before l)
      by_where (inside i e l) = g i e l ∙ sym (from_inside i e l)
      by_where (past l) = k l ∙ sym (from_past l)

  -- a line of zeros stays one
  pub moved_zeros : ((i : ℕ) → i < s → line i ≡ 0) → moved d s line x ≡ 0
  moved_zeros f = sym (moved_is 0 (λ _. refl) (λ i _ l. sym (f i l)) (λ _. refl))

  -- nothing lies inside
  pub moved_out : OneWay d → s ≤ d.plus + d.minus → x < s → moved d s line x ≡ 0
  moved_out o l m = sym (moved_is 0 (λ _. refl) (λ i e k. absurd (omega arith)) (λ _. refl))

-- two lines that agree
pub moved_ext : (d : Offset) (s : ℕ) (f g : Line) (x : ℕ) → ((i : ℕ) → i < s → f i ≡ g i) → moved d s f x ≡ moved d s g x
moved_ext d s f g x h = moved_is d s g x _ (from_before d s f x) (λ i e l. from_inside d s f x i e l ∙ h i l) (from_past d s f x)

-- a plane that is moved looks only inside
pub shifted_local : (dx dy : Offset) (w h : ℕ) (p q : Plane) → ((x y : ℕ) → x < w → y < h → p x y ≡ q x y) → (x y : ℕ) → shifted dx dy w h p x y ≡ shifted dx dy w h q x y
unfolding shifted
shifted_local dx dy w h p q e x y = moved_ext dx w _ _ x (λ i li. moved_ext dy h (p i) (q i) y (λ j lj. e i j li lj))

-- two moves that agree in where they look: element i of the one line is element k i of the other
module _ (d : Offset) (s x : ℕ) (e : Offset) (t y : ℕ) (k : ℕ → ℕ) (line : Line) where
  pub moved_as : (x + d.minus < d.plus → y + e.minus < e.plus) →
      ((i : ℕ) → x + d.minus ≡ d.plus + i → i < s → (y + e.minus ≡ e.plus + k i) × (k i < t)) →
      (d.plus + s ≤ x + d.minus → e.plus + t ≤ y + e.minus) → moved e t line y ≡ moved d s (λ i. line (k i)) x
  moved_as f g h =
      moved_is d s _ x _
      (λ l. from_before e t line y (f l))
      (λ i p l. from_inside e t line y (k i) (g i p l).0 (g i p l).1)
      (λ l. from_past e t line y (h l))

-- only the difference of an offset's two numbers matters
pub moved_same : (d e : Offset) (s : ℕ) (line : Line) (x : ℕ) → d.plus + e.minus ≡ e.plus + d.minus → moved d s line x ≡ moved e s line x
moved_same d e s line x h = moved_as e s x d s x (λ i. i) line (λ l. omega arith) (λ i p l. (omega arith, l)) (λ l. omega arith)
