-- Between the least and the greatest input: samples by any rule but None are values of the line, and weighted means lie between their parts.
use Rattle.std.proofs.Common.{Some}
use mathlib.Core.Path.{◌≡◌, refl, ◌∙◌}
use mathlib.Core.Bool.{Bool, true, false, cond}
use mathlib.Core.List.{List}
use mathlib.Core.Logic.{⊎_elim}
use Prim.Native.Nat.{ℕ, zero, suc, ◌+◌, ◌-◌, ◌*◌, ◌/◌, ◌%◌, ◌≤◌, ◌<◌}
use native.Mathlib.Nat.{mul-add, mul-zero, mul_comm, mul-le-mul_right}
use native.Mathlib.Omega.{arith}
use lib.Dec.{ltb}
use lib.ListN.{length, get_or}
use Rattle.picture.specs.Planes.{Line, Plane, chan}
use Rattle.picture.specs.declared.EdgeMode.{EdgeMode}
use Rattle.picture.specs.declared.EdgeMode.TheVariants.{Duplicate, Wrap, Mirror, None}
use Rattle.picture.proofs.Planes.{chan_painted, pixel_fits, remainder, quotient}
use Rattle.picture.proofs.Spans.{le_or_lt}
use Rattle.edges.specs.Edges.{modulo, place, value_at, sample}
use Rattle.binary32.specs.Grid.{sum}
use Rattle.binary32.specs.Taps.{sum_to}
use Rattle.passes.specs.Passes.{halve, double}
use Rattle.passes.specs.Blur.{blur}
use Rattle.kept.proofs.Carried.{Carries, Sampled, Eighths, blur_inside}
use Rattle.grid_sums.specs.Sums.{grid_sum, whole_convolve}
use Rattle.grid_sums.proofs.Local.{whole_local}
use Rattle.whole_blur.specs.Blurred.{whole_blurred}
use Rattle.profiles.specs.Between.{StaysBetween, least_to, greatest_to, least_of, greatest_of, BetweenExtremes}
use Rattle.profiles.proofs.Weights.{sum_is}

-- what holds of all of a line holds of its samples, under any mode but None
module _ (P : ℕ → Type 0) (line : Line) (all : (i : ℕ) → P (line i)) where
  inside : (b t : Bool) (i j k : ℕ) → P (value_at (cond b (Some i) (cond t (Some j) (Some k))) line)
  inside true t i j k = all i
  inside false true i j k = all j
  inside false false i j k = all k

  sample_holds : (mode : EdgeMode) → (mode ≡ None → ⊥) → (s c d : ℕ) → P (sample mode s line c d)
  unfolding sample place
  sample_holds Duplicate f s c d = inside (ltb c d) (ltb (c - d) s) _ _ _
  sample_holds Wrap f s c d = all _
  sample_holds Mirror f s c d = inside false (ltb (modulo (2 * s) c d) s) 0 _ _
  sample_holds None f s c d = absurd (f refl)

-- a sum of values in weights, where each value lies from low to high
module _ (low high : ℕ) (f m : ℕ → ℕ) (b : (j : ℕ) → (low ≤ f j) × (f j ≤ high)) where
  weighed : (n : ℕ) → (low * sum_to m n ≤ sum_to (λ j. f j * m j) n) × (sum_to (λ j. f j * m j) n ≤ high * sum_to m n)
  unfolding sum_to
  weighed zero = (omega (arith, mul-zero low), omega arith)
  weighed (suc n) =
      let w = weighed n in (
        omega (arith, w.0, mul-add low (sum_to m n) (m n), mul-le-mul_right (m n) (b n).0),
        omega (arith, w.1, mul-add high (sum_to m n) (m n), mul-le-mul_right (m n) (b n).1),
      )

module _ (low high : ℕ) where
  -- a lies from low to high; the other line stands for itself
  abbrev In : ℕ → ℕ → Type 0
  In a _ = (low ≤ a) × (a ≤ high)

  in_eighths : Eighths In
  in_eighths a b c d _ _ _ _ p q r s = (omega (arith, p.0, q.0, r.0, s.0), omega (arith, p.1, q.1, r.1, s.1))

  module _ (mode : EdgeMode) (f : mode ≡ None → ⊥) where
    in_sampled : Sampled In mode
    in_sampled s p q r c d = sample_holds (λ a. (low ≤ a) × (a ≤ high)) p r mode f s c d

    -- a sum of exactly 65536 over 65536
    in_convolve : (ms : List ℕ) → sum ms ≡ 65536 → Carries In (whole_convolve mode ms) (whole_convolve mode ms)
    unfolding whole_convolve grid_sum
    in_convolve ms e s p q r x =
        let all : sum_to (λ j. get_or ms j 0) (length ms) ≡ 65536 = sum_is ms (omega (arith, e)) ∙ e in
        let w = weighed low high (λ j. sample mode s p (x + j) (length ms / 2)) (λ j. get_or ms j 0) (λ j. in_sampled s p q r (x + j) (length ms / 2)) (length ms) in
        let least = rw all at w.0 in
        let most = rw all at w.1 in
        (omega (arith, least), omega (arith, most))

pub stays_between : StaysBetween
unfolding whole_blurred
stays_between ms e mode f n w h p c low high lc range x y lx ly =
    rw (chan_painted w h (λ c. blur (halve mode) (double mode) (whole_convolve mode ms) n w h (chan p w c)) c x y lc lx ly)
    (blur_inside (In low high) mode (in_sampled low high mode f) (in_eighths low high) _ _ (whole_local mode ms) (whole_local mode ms) (in_convolve low high mode f ms e)
    n w h (omega arith) (omega arith) (chan p w c) (chan p w c) range x y)

-- each value lies between the least and the greatest
between_at : (f : ℕ → ℕ) (n k : ℕ) → k ≤ n → (least_to f n ≤ f k) × (f k ≤ greatest_to f n)
unfolding least_to greatest_to
between_at f zero k l = let e : k ≡ 0 = omega arith in rw e (omega arith, omega arith)
between_at f (suc n) k l =
    ⊎_elim
    (λ (last : suc n ≤ k). let e : k ≡ suc n = omega arith in rw e (omega arith, omega arith))
    (λ (m : k < suc n). let b = between_at f n k (omega arith) in (omega (arith, b.0), omega (arith, b.1)))
    (le_or_lt (suc n) k)

-- and so each of a plane
pub extremes : (w h : ℕ) (p : Plane) (x y : ℕ) → x < w → y < h → (least_of w h p ≤ p x y) × (p x y ≤ greatest_of w h p)
extremes w h p x y lx ly =
    let k = y * w + x in
    let at : p (k % w) (k / w) ≡ p x y = rw (remainder w y x lx, quotient w y x lx) in
    let b = between_at (λ k. p (k % w) (k / w)) (w * h - 1) k (omega (arith, pixel_fits w h x y lx ly, mul_comm h w)) in
    (omega (arith, at, b.0), omega (arith, at, b.1))

pub between_extremes : BetweenExtremes
between_extremes ms e mode f n w h p c lc = stays_between ms e mode f n w h p c _ _ lc (extremes w h (chan p w c))
