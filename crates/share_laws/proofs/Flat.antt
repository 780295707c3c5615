-- The exact blur of a flat line, and of one that is nowhere above a number.
use Rattle.std.proofs.Common.{Some}
use mathlib.Core.Path.{◌≡◌, refl, ap, ◌∙◌}
use mathlib.Core.Bool.{Bool, true, false, cond}
use mathlib.Core.List.{List}
use Prim.Native.Nat.{ℕ, zero, suc, ◌+◌, ◌-◌, ◌*◌, ◌/◌, ◌%◌, ◌^◌, ◌≤◌}
use native.Mathlib.Nat.{mul_comm, mul_assoc, mul-le-mul_right}
use native.Mathlib.Omega.{arith}
use lib.Dec.{eqb, ltb}
use lib.ListN.{length, get_or}
use lib.Pow.{pow-add}
use Rattle.picture.specs.Planes.{Line}
use Rattle.picture.specs.Sizes.{half}
use Rattle.picture.specs.declared.EdgeMode.{EdgeMode}
use Rattle.picture.specs.declared.EdgeMode.TheVariants.{Duplicate, Wrap, Mirror, None}
use Rattle.edges.specs.Edges.{modulo, place, value_at, sample}
use Rattle.binary32.specs.Grid.{sum}
use Rattle.passes.proofs.Taps.{sample_most}
use Rattle.grid_sums.specs.Sums.{grid_sum}
use Rattle.exact_blur.specs.Exact.{exact_halve, exact_double, exact_convolve}
use Rattle.share_laws.specs.Share.{line_blur, exact_line, axis_scale}
use Rattle.share_laws.proofs.Sums.{sum_same, sum_times, sum_is, sum_most}

-- a halving and a doubling more
pub scale_more : (n k : ℕ) → 4 * (axis_scale n * (8 * k)) ≡ axis_scale (suc n) * k
scale_more n k =
    let e : axis_scale (suc n) ≡ axis_scale n * 32 = ap (λ (m : ℕ). 2 ^ m) (omega arith) ∙ pow-add 2 _ 5 in
    rw (e, mul_assoc (axis_scale n) 32 k, mul_comm (axis_scale n) (8 * k), mul_comm (axis_scale n) (32 * k), mul_assoc 8 k (axis_scale n), mul_assoc 32 k (axis_scale n)) (omega arith)

-- what holds of a line holds of its samples, under any mode but None
module _ (P : ℕ → Type 0) (line : Line) (all : (i : ℕ) → P (line i)) where
  inside : (b t : Bool) (i j k : ℕ) → P (value_at (cond b (Some i) (cond t (Some j) (Some k))) line)
  inside true t i j k = all i
  inside false true i j k = all j
  inside false false i j k = all k

  turned : (b : Bool) (i j : ℕ) → P (value_at (cond b (Some i) (Some j)) line)
  turned true i j = all i
  turned false i j = all j

  pub sample_holds : (mode : EdgeMode) → (mode ≡ None → ⊥) → (s c d : ℕ) → P (sample mode s line c d)
  unfolding sample place
  sample_holds Duplicate f s c d = inside (ltb c d) (ltb (c - d) s) _ _ _
  sample_holds Wrap f s c d = all _
  sample_holds Mirror f s c d = turned (ltb (modulo (2 * s) c d) s) (modulo (2 * s) c d) (2 * s - 1 - modulo (2 * s) c d)
  sample_holds None f s c d = absurd (f refl)

either : (P : ℕ → Type 0) (b : Bool) (x y : ℕ) → P x → P y → P (cond b x y)
either P true x y p q = p
either P false x y p q = q

module _ (mode : EdgeMode) (f : mode ≡ None → ⊥) (ms : List ℕ) (e : sum ms ≡ 65536) where
  -- samples of a line that is k everywhere
  flat : (line : Line) (k : ℕ) → ((i : ℕ) → line i ≡ k) → (s c d : ℕ) → sample mode s line c d ≡ k
  flat line k all s c d = sample_holds (λ a. a ≡ k) line all mode f s c d

  halve_flat : (line : Line) (k : ℕ) → ((i : ℕ) → line i ≡ k) → (s x : ℕ) → exact_halve mode s line x ≡ 8 * k
  unfolding exact_halve
  halve_flat line k all s x =
      let at = flat line k all s in omega (arith, at (2 * x) 1, at (2 * x) 0, at (2 * x + 1) 0, at (2 * x + 2) 0)

  double_flat : (line : Line) (k : ℕ) → ((i : ℕ) → line i ≡ k) → (s y : ℕ) → exact_double mode s line y ≡ 4 * k
  unfolding exact_double
  double_flat line k all s y =
      let at = flat line k all s in
      either (λ a. a ≡ 4 * k) (eqb (y % 2) 0) _ _ (omega (arith, at (y / 2) 1, at (y / 2) 0)) (omega (arith, at (y / 2) 0, at (y / 2 + 1) 0))

  convolve_flat : (line : Line) (k : ℕ) → ((i : ℕ) → line i ≡ k) → (s x : ℕ) → exact_convolve mode ms s line x ≡ 65536 * k
  unfolding grid_sum
  convolve_flat line k all s x =
      sum_same _ (λ j. k * get_or ms j 0) (length ms) (λ j _. ap (λ (a : ℕ). a * get_or ms j 0) (flat line k all s (x + j) (length ms / 2)))
      ∙ sum_times k (λ j. get_or ms j 0) (length ms)
      ∙ ap (λ (a : ℕ). k * a) (sum_is ms ∙ e)
      ∙ mul_comm k 65536

  -- the exact blur of a line that is k everywhere is 2^(5n+16) times k
  pub line_flat : (n s : ℕ) (line : Line) (k : ℕ) → ((i : ℕ) → line i ≡ k) → (x : ℕ) → exact_line mode ms n s line x ≡ axis_scale n * k
  unfolding line_blur
  line_flat zero s line k all x = convolve_flat line k all s x
  line_flat (suc n) s line k all x =
      double_flat _ (axis_scale n * (8 * k)) (λ i. line_flat n (half s) _ (8 * k) (halve_flat line k all s) i) (half s) x ∙ scale_more n k

-- a line with no value above k, whatever the edge rule
module _ (mode : EdgeMode) where
  pub halve_most : (line : Line) (k : ℕ) → ((i : ℕ) → line i ≤ k) → (s x : ℕ) → exact_halve mode s line x ≤ 8 * k
  unfolding exact_halve
  halve_most line k all s x =
      let at = sample_most mode line k all s in omega (arith, at (2 * x) 1, at (2 * x) 0, at (2 * x + 1) 0, at (2 * x + 2) 0)

  pub double_most : (line : Line) (k : ℕ) → ((i : ℕ) → line i ≤ k) → (s y : ℕ) → exact_double mode s line y ≤ 4 * k
  unfolding exact_double
  double_most line k all s y =
      let at = sample_most mode line k all s in
      either (λ a. a ≤ 4 * k) (eqb (y % 2) 0) _ _ (omega (arith, at (y / 2) 1, at (y / 2) 0)) (omega (arith, at (y / 2) 0, at (y / 2 + 1) 0))

  pub convolve_most : (ms : List ℕ) → sum ms ≤ 65536 → (line : Line) (k : ℕ) → ((i : ℕ) → line i ≤ k) → (s x : ℕ) → exact_convolve mode ms s line x ≤ 65536 * k
  unfolding grid_sum
  convolve_most ms fits line k all s x =
      let most = rw (sum_is ms) at (sum_most (λ j. sample mode s line (x + j) (length ms / 2)) (λ j. get_or ms j 0) k (λ j. sample_most mode line k all s (x + j) (length ms / 2)) (length ms)) in
      omega (arith, most, mul-le-mul_right k fits, mul_comm k (sum ms))

  pub line_most : (ms : List ℕ) → sum ms ≤ 65536 → (n s : ℕ) (line : Line) (k : ℕ) → ((i : ℕ) → line i ≤ k) → (x : ℕ) → exact_line mode ms n s line x ≤ axis_scale n * k
  unfolding line_blur
  line_most ms fits zero s line k all x = convolve_most ms fits line k all s x
  line_most ms fits (suc n) s line k all x =
      omega (arith, double_most _ (axis_scale n * (8 * k)) (λ i. line_most ms fits n (half s) _ (8 * k) (halve_most line k all s) i) (half s) x, scale_more n k)
