-- A pass backwards: the outputs before x have been carried back to the row.
use mathlib.Core.Path.{◌≡◌, refl, ◌∙◌, ap}
use mathlib.Core.List.{List}
use Prim.Native.Nat.{ℕ, suc, ◌+◌, ◌*◌, ◌≤◌, ◌<◌}
use native.Mathlib.Nat.{mul_comm, mul-add, mul-one, zero-mul, mul-le-mul_left}
use native.Mathlib.Numerals.{add-one}
use native.Mathlib.Omega.{arith}
use lib.ListN.{length, get_or}
use Rattle.picture.specs.Planes.{Line}
use Rattle.picture.specs.declared.EdgeMode.{EdgeMode}
use Rattle.binary32.specs.Taps.{sum_to}
use Rattle.share_laws.proofs.Sums.{sum_same, sum_most}
use Rattle.share_laws.proofs.Flat.{halve_most, double_most, convolve_most}
use Rattle.back_passes.specs.Worth.{worth_of, total, Gained}
use Rattle.back_passes.specs.Steps.{exact_pass, gain, LightKernel}
use Rattle.back_passes.specs.declared.back.PassKind.{PassKind}
use Rattle.back_passes.specs.declared.back.PassKind.TheVariants.{Halve, Double, Convolve}
use Rattle.back_passes.proofs.Worth.{sum_grows}

-- a pass of a line of at most k is at most its gain times k
pub gain_most : (kind : PassKind) (mode : EdgeMode) (ms : List ℕ) → LightKernel ms → (l : Line) (k : ℕ) → ((i : ℕ) → l i ≤ k) → (s x : ℕ) → exact_pass kind mode ms s l x ≤ gain kind * k
gain_most Halve mode ms z = halve_most mode
gain_most Double mode ms z = double_most mode
gain_most Convolve mode ms z = convolve_most mode ms z.light

module _ (kind : PassKind) (mode : EdgeMode) (ms : List ℕ) (s : ℕ) (outputs : List ℕ) where
  -- what the first x outputs are worth
  abbrev pub carried_to : Line → ℕ → ℕ
  carried_to l x = sum_to (λ k. get_or outputs k 0 * exact_pass kind mode ms s l k) x

  pub carried_none : (row : List ℕ) → Gained row row (λ l. carried_to l 0)
  unfolding sum_to
  carried_none row l = omega arith

  -- one output more, ..
  pub carried_more : (old row row' : List ℕ) (x : ℕ) → Gained old row (λ l. carried_to l x) → Gained row row' (λ l. get_or outputs x 0 * exact_pass kind mode ms s l x) → Gained old row' (λ l. carried_to l (x + 1))
  unfolding sum_to
  carried_more old row row' x h g l =
      let f : ℕ → ℕ = λ k. get_or outputs k 0 * exact_pass kind mode ms s l k in
      let step : sum_to f (x + 1) ≡ sum_to f x + f x = rw (add-one) refl in
      omega (arith, h l, g l, step)

  -- .. which adds nothing where it is worth nothing
  pub carried_blank : (old row : List ℕ) (x : ℕ) → Gained old row (λ l. carried_to l x) → get_or outputs x 0 ≡ 0 → Gained old row (λ l. carried_to l (x + 1))
  carried_blank old row x h z =
      carried_more old row row x h
      (λ l. let none : get_or outputs x 0 * exact_pass kind mode ms s l x ≡ 0 = ap (λ (m : ℕ). m * exact_pass kind mode ms s l x) z ∙ zero-mul (exact_pass kind mode ms s l x) in omega (arith, none))

  -- there is room for one more
  pub carried_room : LightKernel ms → (old row : List ℕ) (x : ℕ) → x < length outputs → Gained old row (λ l. carried_to l x) →
      total row + gain kind * get_or outputs x 0 ≤ total old + gain kind * total outputs
  unfolding total worth_of sum_to
  carried_room z old row x l h =
      let all : sum_to (λ k. get_or outputs k 0 * 1) (suc x) ≤ sum_to (λ k. get_or outputs k 0 * 1) (length outputs) = sum_grows (λ k. get_or outputs k 0 * 1) (suc x) (length outputs) l in
      let ones = exact_pass kind mode ms s (λ _. 1) in
      let most = sum_most ones (λ k. get_or outputs k 0 * 1) (gain kind * 1) (gain_most kind mode ms z (λ _. 1) 1 (λ _. omega arith) s) x in
      let turned = sum_same (λ k. get_or outputs k 0 * ones k) (λ k. ones k * (get_or outputs k 0 * 1)) x (λ k _. rw (mul-one (get_or outputs k 0)) (mul_comm (get_or outputs k 0) (ones k))) in
      omega (arith, h (λ _. 1), most, turned, all, mul-one (gain kind), mul-one (get_or outputs x 0), mul-le-mul_left (gain kind) all, mul-add (gain kind) (sum_to (λ k. get_or outputs k 0 * 1) x) (get_or outputs x 0 * 1))

  pub carried_all : (old row : List ℕ) (x : ℕ) → x ≡ length outputs → Gained old row (λ l. carried_to l x) → Gained old row (λ l. worth_of outputs (exact_pass kind mode ms s l))
  unfolding worth_of
  carried_all old row x e h l = rw e at (h l)
