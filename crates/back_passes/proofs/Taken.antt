-- Laws of taps: each pass is one, and taps of a line of ones come to no more than their weights.
use Rattle.std.proofs.Common.{Option, Some, None}
use mathlib.Core.Path.{◌≡◌, refl, ◌∙◌, ap, sym}
use mathlib.Core.List.{List, [], ◌∷◌}
use Prim.Native.Nat.{ℕ, suc, ◌+◌, ◌*◌, ◌/◌, ◌%◌, ◌≤◌, ◌<◌}
use native.Mathlib.Nat.{mul-add, mul_assoc, mul_comm, mul-zero, mul-le-mul_left}
use native.Mathlib.Numerals.{add-one}
use native.Mathlib.Omega.{arith}
use borrow.Author.Tests.{eq-eqb, ne_eqb}
use lib.ListN.{length, get_or}
use Rattle.picture.specs.Planes.{Line}
use Rattle.picture.specs.declared.EdgeMode.{EdgeMode}
use Rattle.picture.proofs.Sizes.{room_is}
use Rattle.edges.specs.Edges.{place, value_at, sample}
use Rattle.edges.specs.Whole.{place_of}
use Rattle.edges.proofs.Whole.{from_zero, place_is}
use Rattle.binary32.specs.Grid.{sum}
use Rattle.binary32.specs.Taps.{sum_to}
use Rattle.passes.proofs.Taps.{sample_most}
use Rattle.grid_sums.specs.Sums.{grid_sum}
use Rattle.exact_blur.specs.Exact.{exact_halve, exact_double, exact_convolve}
use Rattle.share_laws.proofs.Sums.{sum_is, sum_most}
use Rattle.back_passes.specs.Worth.{worth_of, total, Gained}
use Rattle.back_passes.specs.Steps.{taps_to, tap_sum, gain, TapsReady, OutputReady}
use Rattle.back_passes.specs.declared.back.PassKind.{PassKind}
use Rattle.back_passes.proofs.Worth.{sum_grows}

-- what is no element is none
pub none_left : (o : Option ℕ) → ((i : ℕ) → o ≡ Some i → ⊥) → o ≡ None
none_left (Some i) h = absurd (h i refl)
none_left None h = refl

module _ (mode : EdgeMode) (s : ℕ) where
  -- an element that the coordinate reads, or none
  pub tap_in : (c d more i : ℕ) (row row' : List ℕ) → place mode s c d ≡ Some i → Gained row row' (λ l. more * l i) → Gained row row' (λ l. more * sample mode s l c d)
  unfolding sample
  tap_in c d more i row row' e h l = rw e (h l)

  pub tap_out : (c d more : ℕ) (row : List ℕ) → place mode s c d ≡ None → Gained row row (λ l. more * sample mode s l c d)
  unfolding sample
  tap_out c d more row e l = rw e (omega (arith, mul-zero more))

  -- samples of ones are at most 1
  pub one_most : (c d : ℕ) → sample mode s (λ _. 1) c d ≤ 1
  one_most c d = sample_most mode (λ _. 1) 1 (λ i. omega arith) s c d

  module _ (taps : List ℕ) (c d v : ℕ) where
    pub taps_none : (row : List ℕ) → Gained row row (λ l. v * taps_to mode taps s l c d 0)
    unfolding sum_to
    taps_none row l = omega (arith, mul-zero v)

    -- one tap more
    pub taps_more : (old row row' : List ℕ) (j : ℕ) → Gained old row (λ l. v * taps_to mode taps s l c d j) → Gained row row' (λ l. v * get_or taps j 0 * sample mode s l (c + j) d) →
        Gained old row' (λ l. v * taps_to mode taps s l c d (j + 1))
    unfolding sum_to
    taps_more old row row' j h g l =
        let a = sample mode s l (c + j) d in
        rw (add-one) (omega (arith, h l, g l, mul-add v (taps_to mode taps s l c d j) (a * get_or taps j 0), mul_assoc v (get_or taps j 0) a, ap (λ (k : ℕ). v * k) (mul_comm a (get_or taps j 0))))

    -- there is room for it
    pub taps_room : (old row : List ℕ) (j : ℕ) → j < length taps → Gained old row (λ l. v * taps_to mode taps s l c d j) → total row + v * get_or taps j 0 ≤ total old + v * sum taps
    unfolding total sum_to
    taps_room old row j l h =
        let weights : ℕ → ℕ = λ i. get_or taps i 0 in
        let ones : taps_to mode taps s (λ _. 1) c d j ≤ 1 * sum_to weights j = sum_most (λ i. sample mode s (λ _. 1) (c + i) d) weights 1 (λ i. one_most (c + i) d) j in
        let all : sum_to weights (suc j) ≤ sum_to weights (length taps) = sum_grows weights (suc j) (length taps) l in
        let below : taps_to mode taps s (λ _. 1) c d j + get_or taps j 0 ≤ sum taps = omega (arith, ones, all, sum_is taps) in
        omega (arith, h (λ _. 1), mul-le-mul_left v below, mul-add v (taps_to mode taps s (λ _. 1) c d j) (get_or taps j 0))

-- ---- each pass as taps
module _ (mode : EdgeMode) (s : ℕ) (low : 0 < s) (l : Line) where
  -- the coordinate c + 1 - 1 is c
  lower : (c : ℕ) → sample mode s l (c + 1) 1 ≡ sample mode s l c 0
  unfolding sample
  lower c =
      ap (λ (a : Option ℕ). value_at a l)
      (place_is mode s (c + 1) 1 low ∙ ap (place_of mode s) (from_zero (c + 1) 1 c (omega arith) ∙ sym (from_zero c 0 c (omega arith))) ∙ sym (place_is mode s c 0 low))

  pub halve_taps : (x : ℕ) → exact_halve mode s l x ≡ tap_sum mode (1 ∷ 3 ∷ 3 ∷ 1 ∷ []) s l (2 * x) 1
  unfolding exact_halve tap_sum sum_to
  halve_taps x =
      let two : sample mode s l (2 * x + 2) 1 ≡ sample mode s l (2 * x + 1) 0 = ap (λ (c : ℕ). sample mode s l c 1) (omega arith) ∙ lower (2 * x + 1) in
      let three : sample mode s l (2 * x + 3) 1 ≡ sample mode s l (2 * x + 2) 0 = ap (λ (c : ℕ). sample mode s l c 1) (omega arith) ∙ lower (2 * x + 2) in
      let none : sample mode s l (2 * x + 0) 1 ≡ sample mode s l (2 * x) 1 = ap (λ (c : ℕ). sample mode s l c 1) (omega arith) in
      omega (arith, none, lower (2 * x), two, three)

  pub even_taps : (y : ℕ) → y % 2 ≡ 0 → exact_double mode s l y ≡ tap_sum mode (1 ∷ 3 ∷ []) s l (y / 2) 1
  unfolding exact_double tap_sum sum_to
  even_taps y e =
      let none : sample mode s l (y / 2 + 0) 1 ≡ sample mode s l (y / 2) 1 = ap (λ (c : ℕ). sample mode s l c 1) (omega arith) in
      rw (eq-eqb (y % 2) 0 e) (omega (arith, none, lower (y / 2)))

  pub odd_taps : (y : ℕ) → (y % 2 ≡ 0 → ⊥) → exact_double mode s l y ≡ tap_sum mode (3 ∷ 1 ∷ []) s l (y / 2) 0
  unfolding exact_double tap_sum sum_to
  odd_taps y f =
      let none : sample mode s l (y / 2 + 0) 0 ≡ sample mode s l (y / 2) 0 = ap (λ (c : ℕ). sample mode s l c 0) (omega arith) in
      rw (ne_eqb (y % 2) 0 f) (omega (arith, none))

  pub convolve_taps : (numerators : List ℕ) (x : ℕ) → exact_convolve mode numerators s l x ≡ tap_sum mode numerators s l x (length numerators / 2)
  unfolding grid_sum tap_sum
  convolve_taps numerators x = refl

-- a row that gained by taps gained by the pass that they are
pub gained_as : (row row' : List ℕ) (v : ℕ) (f g : Line → ℕ) → ((l : Line) → g l ≡ f l) → Gained row row' (λ l. v * f l) → Gained row row' (λ l. v * g l)
gained_as row row' v f g e h l = h l ∙ ap (λ (a : ℕ). worth_of row l + v * a) (sym (e l))

-- taps near output x that weigh no more than its pass gains can be carried back
pub taps_ready : {kind : PassKind} {row : List ℕ} {x v : ℕ} {ms : List ℕ} → OutputReady kind row x v ms → (c d : ℕ) (taps : List ℕ) →
    c ≤ 2 * x → d ≤ 33 → length taps ≤ 33 → sum taps ≤ gain kind → TapsReady row c d v taps
taps_ready {kind} {row} {x} {v} r c d taps lc ld few light =
    record {
      sized = r.sized;
      far = omega (arith, r.far, room_is);
      near = omega arith;
      room = omega (arith, r.room, mul-le-mul_left v light, mul_comm v (gain kind));
    }
