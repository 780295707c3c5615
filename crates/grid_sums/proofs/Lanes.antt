-- Laws of the lanes of a run: what a tap reads there, one tap after another, and the sum that they are.
use mathlib.Core.Path.{◌≡◌, refl, sym, ◌∙◌}
use mathlib.Core.List.{List}
use Prim.Native.Nat.{ℕ, ◌+◌, ◌-◌, ◌*◌, ◌/◌, ◌%◌, ◌≤◌, ◌<◌}
use native.Mathlib.Nat.{add-mul, add-zero, zero-add, mod-eq_of_lt, div-eq_of_lt, div-add-mod', div-lt_iff_lt-mul, mul-add-div_right}
use native.Mathlib.Numerals.{add-one}
use native.Mathlib.Omega.{arith}
use lib.ListN.{length, get_or}
use Rattle.std.proofs.Common.{Some, None}
use Rattle.picture.specs.declared.EdgeMode.{EdgeMode}
use Rattle.picture.specs.Spans.{Run}
use Rattle.edges.specs.Edges.{place, sample}
use Rattle.edges.proofs.Samples.{sample_near}
use Rattle.binary32.specs.Taps.{sum_to}
use Rattle.passes.specs.Written.{lane}
use Rattle.passes.proofs.Taps.{sample_most}
use Rattle.grid_sums.specs.Sums.{grid_sum}
use Rattle.grid_sums.specs.Room.{most_sum, Numerators}
use Rattle.grid_sums.proofs.Sums.{sum_fits}

-- one run over another
pub run_again : {d e e' : List ℕ} {n : ℕ} {f g h : ℕ → ℕ} → Run 0 d e 0 n f → Run 0 e e' 0 n g → ((i : ℕ) → i < n → g i ≡ h i) → Run 0 d e' 0 n h
run_again s t q =
    record {
      size = t.size ∙ s.size;
      inside = λ i l m. t.inside i l m ∙ q i m;
      below = λ j l. absurd (omega arith);
      above = λ j l. t.above j l ∙ s.above j l;
    }

-- sums to which nothing is added
pub run_still : {d : List ℕ} {n : ℕ} {h : ℕ → ℕ} → ((i : ℕ) → i < n → get_or d i 0 ≡ h i) → Run 0 d d 0 n h
run_still q = record { size = refl; inside = λ i l m. rw zero-add (q i m); below = λ j l. refl; above = λ j l. refl }

-- what lane i of a run reads from lane `from` of the element c - d on
module _ (mode : EdgeMode) (src : List ℕ) (start len stride from c d i : ℕ) where
  abbrev pub lane_sample : ℕ
  lane_sample = sample mode len (lane src start stride ((from + i) % stride)) (c + (from + i) / stride) d

  -- where the run lies inside
  pub lane_inner : (n : ℕ) → 0 < stride → d ≤ c → (c - d) * stride + from + n ≤ len * stride → i < n → get_or src (start + ((c - d) * stride + from) + i) 0 ≡ lane_sample
  lane_inner n z l h m =
      let e = (from + i) / stride in
      let q = c - d + e in
      let at : start + ((c - d) * stride + from) + i ≡ start + q * stride + (from + i) % stride = omega (arith, div-add-mod' (from + i) stride, add-mul (c - d) e stride) in
      let is : ((c - d) * stride + (from + i)) / stride ≡ q = mul-add-div_right z (c - d) (from + i) in
      let low : ((c - d) * stride + (from + i)) / stride < len = (div-lt_iff_lt-mul z).1 (omega arith) in
      rw at (sym (sample_near mode len (lane src start stride ((from + i) % stride)) (c + e) d q (omega arith) (omega arith)))

  -- where it lies in one element
  module _ (l : from + i < stride) where
    lane_one : sample mode len (lane src start stride (from + i)) c d ≡ lane_sample
    lane_one = rw (mod-eq_of_lt l, div-eq_of_lt l, add-zero)

    pub lane_inside : (j : ℕ) → place mode len c d ≡ Some j → get_or src (start + (j * stride + from) + i) 0 ≡ lane_sample
    unfolding sample
    lane_inside j e =
        let at : start + (j * stride + from) + i ≡ start + j * stride + (from + i) = omega arith in
        rw at (found ∙ lane_one)
      where
        found : lane src start stride (from + i) j ≡ sample mode len (lane src start stride (from + i)) c d
        found = rw e

    pub lane_outside : place mode len c d ≡ None → 0 ≡ lane_sample
    unfolding sample
    lane_outside e = found ∙ lane_one
      where
        found : 0 ≡ sample mode len (lane src start stride (from + i)) c d
        found = rw e

-- the sum of lane i under the first n numerators
module _ (mode : EdgeMode) (ms src : List ℕ) (start len stride x from i : ℕ) where
  abbrev pub part_sum : ℕ → ℕ
  part_sum n = sum_to (λ j. sample mode len (lane src start stride ((from + i) % stride)) (x + (from + i) / stride + j) (length ms / 2) * get_or ms j 0) n

  pub part_none : 0 ≡ part_sum 0
  unfolding sum_to
  part_none = refl

  pub part_more : (j : ℕ) {s : ℕ} → s ≡ part_sum j → s + lane_sample mode src start len stride from (x + j) (length ms / 2) i * get_or ms j 0 ≡ part_sum (j + 1)
  unfolding sum_to
  part_more j e =
      let at : x + j + (from + i) / stride ≡ x + (from + i) / stride + j = omega arith in rw (e, at, add-one)

  pub part_all : part_sum (length ms) ≡ grid_sum mode ms len (lane src start stride ((from + i) % stride)) (x + (from + i) / stride)
  unfolding grid_sum
  part_all = refl

  pub part_fits : Numerators ms → ((b : ℕ) → get_or src b 0 ≤ 255) → (n : ℕ) → n ≤ length ms → part_sum n ≤ most_sum
  part_fits k b = sum_fits k _ (λ j. sample_most mode (lane src start stride ((from + i) % stride)) 255 (λ e. b _) len _ _)

  pub grid_fits : Numerators ms → ((b : ℕ) → get_or src b 0 ≤ 255) → grid_sum mode ms len (lane src start stride ((from + i) % stride)) (x + (from + i) / stride) ≤ most_sum
  grid_fits k b = omega (arith, part_all, part_fits k b (length ms) (omega arith))
