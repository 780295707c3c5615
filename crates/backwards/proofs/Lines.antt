-- Rows of zeros in parts, and the blur along a line, level by level.
use mathlib.Core.Path.{◌≡◌, refl, ◌∙◌, ap, sym}
use mathlib.Core.List.{List, [], ◌∷◌, ◌++◌}
use mathlib.Core.Logic.{⊎_elim}
use Prim.Native.Nat.{ℕ, zero, suc, ◌+◌, ◌*◌, ◌^◌, ◌≤◌, ◌<◌}
use native.Mathlib.Nat.{mul-one, one-mul, mul_left_comm, mul-le-mul_left, mul-le-mul_right, pow-le-pow_right}
use native.Mathlib.Omega.{arith}
use lib.ListN.{length, take, drop, replicate, set, length-take, get_or-eq_default}
use lib.Pow.{pow_pos}
use lib.Seq.{get_or-take, get_or-drop, drop_at}
use Rattle.picture.specs.Planes.{Line}
use Rattle.picture.specs.Sizes.{half}
use Rattle.picture.specs.Build.{build}
use Rattle.picture.specs.declared.EdgeMode.{EdgeMode}
use Rattle.picture.proofs.Build.{build_ext}
use Rattle.picture.proofs.Spans.{le_or_lt}
use Rattle.exact_blur.specs.Exact.{exact_halve, exact_double, exact_convolve}
use Rattle.share_laws.specs.Share.{unit, line_blur, exact_line, axis_scale, axis_share}
use Rattle.share_laws.proofs.Flat.{scale_more, double_most, line_most}
use Rattle.back_passes.specs.Worth.{worth_of, total, Carried, Blank}
use Rattle.back_passes.specs.Steps.{LightKernel}
use Rattle.back_passes.proofs.Worth.{worth_blank, worth_unit, worth_most, worth_more}

-- ---- rows of zeros
pub blank_replicate : (n : ℕ) → Blank (replicate n 0)
blank_replicate zero i = refl
blank_replicate (suc n) zero = refl
blank_replicate (suc n) (suc i) = blank_replicate n i

pub blank_take : (k : ℕ) (row : List ℕ) → Blank row → Blank (take k row)
blank_take k row h i =
    ⊎_elim (λ (l : k ≤ i). get_or-eq_default (take k row) 0 (omega (arith, length-take k row))) (λ (l : i < k). get_or-take k row i 0 l ∙ h i) (le_or_lt k i)

pub blank_drop : (k : ℕ) (row : List ℕ) → Blank row → Blank (drop k row)
blank_drop k row h i = get_or-drop k row i 0 ∙ h (k + i)

pub blank_append : (a b : List ℕ) → Blank a → Blank b → Blank (a ++ b)
blank_append [] b ha hb i = hb i
blank_append (x ∷ a) b ha hb zero = ha zero
blank_append (x ∷ a) b ha hb (suc i) = blank_append a b (λ j. ha (suc j)) hb i

-- a row of zeros whose first k elements were lent, written and lent again, and are zeros again
pub blank_again : (k : ℕ) (row part again : List ℕ) → Blank row → length part ≡ k → Blank again → Blank (again ++ drop k (part ++ drop k row))
blank_again k row part again h e z = blank_append again _ z (rw (drop_at part (drop k row) k e) (blank_drop k row h))

-- ---- a level
module _ (mode : EdgeMode) (ms : List ℕ) where
  pub line_none : (outputs row : List ℕ) (s : ℕ) → Carried outputs row (exact_convolve mode ms s) → Carried outputs row (exact_line mode ms 0 s)
  unfolding line_blur
  line_none outputs row s h = h

  -- doubled back, carried through the level below, and halved back
  pub line_step : (outputs down through row : List ℕ) (n s : ℕ) → Carried outputs down (exact_double mode (half s)) → Carried down through (exact_line mode ms n (half s)) → Carried through row (exact_halve mode s) →
      Carried outputs row (exact_line mode ms (suc n) s)
  unfolding line_blur
  line_step outputs down through row n s d t u l = u l ∙ t (exact_halve mode s l) ∙ d (exact_line mode ms n (half s) (exact_halve mode s l))

  -- what the outputs of the level below are worth in all, and what its elements are
  pub down_total : (outputs down : List ℕ) (s : ℕ) → Carried outputs down (exact_double mode s) → total down ≤ 4 * total outputs
  unfolding total
  down_total outputs down s h =
      omega (arith, h (λ _. 1), worth_most outputs (exact_double mode s (λ _. 1)) (4 * 1) (double_most mode (λ _. 1) 1 (λ _. omega arith) s))

  pub through_total : LightKernel ms → (down through : List ℕ) (n s : ℕ) → Carried down through (exact_line mode ms n s) → total through ≤ axis_scale n * total down
  unfolding total
  through_total z down through n s h =
      omega (arith, h (λ _. 1), worth_most down (exact_line mode ms n s (λ _. 1)) (axis_scale n * 1) (line_most mode ms z.light n s (λ _. 1) 1 (λ _. omega arith)), mul-one (axis_scale n))

-- no sum passes its room on the way
scale_times : (n a : ℕ) → axis_scale (suc n) * a ≡ 32 * (axis_scale n * a)
scale_times n a = sym (scale_more n a) ∙ rw (mul_left_comm (axis_scale n) 8 a) (omega arith)

module _ (n a : ℕ) (h : axis_scale (suc n) * a < 2 ^ 32) where
  pub down_room : 4 * a < 2 ^ 32
  down_room = omega (arith, scale_times n a, mul-le-mul_right a (pow_pos (5 * n + 16)), one-mul a)

  module _ (b : ℕ) (l : b ≤ 4 * a) where
    small : axis_scale n * b ≤ 4 * (axis_scale n * a)
    small = omega (arith, mul-le-mul_left (axis_scale n) l, mul_left_comm (axis_scale n) 4 a)

    pub through_room : axis_scale n * b < 2 ^ 32
    through_room = omega (arith, scale_times n a, small)

    pub up_room : (c : ℕ) → c ≤ axis_scale n * b → 8 * c < 2 ^ 32
    up_room c m = omega (arith, scale_times n a, small)

-- at most 3 decimations leave room for one output
pub scale_fits : (n a : ℕ) → n ≤ 3 → a ≡ 1 → axis_scale n * a < 2 ^ 32
scale_fits n a h e = rw e (omega (arith, mul-one (axis_scale n), pow-le-pow_right {n = 2} (omega arith) {i = 5 * n + 16} {j = 31} (omega arith)))

-- ---- one output
module _ (work : List ℕ) (o : ℕ) (z : Blank work) (l : o < length work) where
  pub one_output : (line : Line) → worth_of (set work o 1) line ≡ line o
  one_output line =
      ap (λ (v : ℕ). worth_of (set work o v) line) (sym (ap (λ (v : ℕ). v + 1) (z o)))
      ∙ worth_more work o 1 l line
      ∙ omega (arith, worth_blank work z line)

  pub one_total : total (set work o 1) ≡ 1
  unfolding total
  one_total = one_output (λ _. 1)

  -- what the row then holds is the share of each input
  pub shares_are : (mode : EdgeMode) (ms : List ℕ) (n s : ℕ) (row : List ℕ) → length row ≡ s → Carried (set work o 1) row (exact_line mode ms n s) → row ≡ build s (axis_share mode ms n s o)
  unfolding axis_share
  shares_are mode ms n s row e h =
      build_ext s _ row e (λ i li. sym (worth_unit row i (omega arith)) ∙ h (unit i) ∙ one_output (exact_line mode ms n s (unit i)))
