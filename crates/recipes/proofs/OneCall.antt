-- A good recipe on buffers that 1 to 3 let through: its single call is done, and leaves what the recipe makes.
use mathlib.Core.Path.{◌≡◌, refl, sym, ◌∙◌, ap}
use mathlib.Core.Bool.{Bool, true, false, not, cond}
use mathlib.Core.List.{List, ◌++◌}
use Prim.Native.Nat.{ℕ, ◌*◌, ◌≤◌, ◌<◌, min}
use native.Mathlib.Omega.{arith}
use native.Mathlib.Nat.{min-le_right, min-eq_left}
use lib.Dec.{eqb, lit<}
use lib.Ieee.{Float}
use lib.ListN.{length, take, drop, replicate, length-drop, length-replicate}
use lib.Seq.{length-take-le, length_front}
use borrow.Author.Tests.{ltb-false, eqb-true, eqb-false}
use Rattle.picture.specs.Planes.{bytes_of, cleared}
use Rattle.picture.specs.Modes.{mode_of}
use Rattle.picture.specs.declared.EdgeMode.{EdgeMode}
use Rattle.binary32.specs.Ranges.{finite, any_outside}
use Rattle.binary32.specs.Round.{whole_offset}
use Rattle.composite.specs.declared.Colour.{Colour}
use Rattle.picture.specs.Refusal.{first_else, first_of, zero_or_above, wrong_sides, wrong_length, too_short, max_taps, wrong_taps, too_deep, wrong_edge}
use Rattle.picture.specs.Answer.{LentCopy, lent_copy, answered, settled}
use Rattle.picture.proofs.Passed.{passed}
use Rattle.picture.proofs.Planes.{length_painted, cleared_is}
use Rattle.picture.proofs.Tests.{neither}
use Rattle.composite.specs.Shadow.{written, composed, coloured}
use Rattle.shift.specs.Shift.{shifted_picture}
use Rattle.shift.specs.Outcome.{wrong_offsets, shift_checks, shift_outcome}
use Rattle.gaussian_blur.specs.Blurred.{blurred}
use Rattle.gaussian_blur.specs.Outcome.{above_zero, blur_checks, blurred_or_kept, blur_outcome}
use Rattle.gaussian_blur.proofs.Outcomes.{cleared_part}
use Rattle.drop_shadow.specs.Shadowed.{colour_of, shadowed}
use Rattle.drop_shadow.specs.Outcome.{either_short, not_finite, wrong_colour, shadow_checks, shadow_outcome}
use Rattle.recipe_checks.specs.declared.Step.{Step}
use Rattle.recipe_checks.specs.Own.{kernels, kernel_of, step_kernel, recipe_of, unknown, kernel_own, shift_own, blur_own, shadow_own, operation_own, own_number}
use Rattle.recipe_checks.specs.Single.{composited, kernel_call, single_call, worked}
use Rattle.recipe_checks.proofs.Known.{known_kernel, inside, own_is}

-- what 1 to 3 let through, of the buffers' lengths
pub record Framed (w h p s c : ℕ) : Type 0 where
  pub sides : wrong_sides w h ≡ false
  pub exact : wrong_length p w h ≡ false
  pub scratch_room : too_short s w h ≡ false
  pub copy_room : too_short c w h ≡ false

-- ---- lengths
cond_length : (n : ℕ) (b : Bool) (x y : List ℕ) → length x ≡ n → length y ≡ n → length (cond b x y) ≡ n
cond_length n true x y ex ey = ex
cond_length n false x y ex ey = ey

blur_length : (mode : EdgeMode) (weights : List Float) (n : ℕ) (strength : Float) (w h : ℕ) (p : List ℕ) → length p ≡ bytes_of w h → length (blurred_or_kept mode weights n strength w h p) ≡ bytes_of w h
unfolding blurred_or_kept blurred
blur_length mode weights n strength w h p is = cond_length (bytes_of w h) (above_zero strength) (blurred mode weights n w h p) p (length_painted w h _) is

shadow_length : (composite : Bool) (colour : Colour) (w h : ℕ) (p q : List ℕ) → length (written composite w h p (coloured colour w h q)) ≡ bytes_of w h
unfolding written composed coloured
shadow_length composite colour w h p q = cond_length (bytes_of w h) composite (composed w h p (coloured colour w h q)) (coloured colour w h q) (length_painted w h _) (length_painted w h _)

pub worked_length : (table : List Float) (w h : ℕ) (step : Step) (p : List ℕ) → length p ≡ bytes_of w h → length (worked table w h step p) ≡ bytes_of w h
unfolding worked shifted_picture shadowed
worked_length table w h step p is =
    cond_length (bytes_of w h) (eqb step.operation 1) (shifted_picture (whole_offset step.dx) (whole_offset step.dy) w h p)
    (cond (eqb step.operation 0) (blurred_or_kept (mode_of step.edge) (step_kernel table step) step.n step.strength w h p)
    (shadowed (mode_of step.edge) (step_kernel table step) step.n (recipe_of step) (composited step) w h p))
    (length_painted w h _)
    (cond_length (bytes_of w h) (eqb step.operation 0) (blurred_or_kept (mode_of step.edge) (step_kernel table step) step.n step.strength w h p)
    (shadowed (mode_of step.edge) (step_kernel table step) step.n (recipe_of step) (composited step) w h p)
    (blur_length (mode_of step.edge) (step_kernel table step) step.n step.strength w h p is)
    (shadow_length (composited step) (colour_of (recipe_of step)) w h p _))

-- ---- a work buffer cleared
zeros_fit : (k : ℕ) (work : List ℕ) → k ≤ length work → length {A = ℕ} (replicate k 0) ≡ length (take k work)
zeros_fit k work le = length-replicate k 0 ∙ sym (length-take-le k work le)

pub cleared_again : (k : ℕ) (work : List ℕ) → k ≤ length work → cleared k (cleared k work) ≡ cleared k work
cleared_again k work le = ap (cleared k) (cleared_is k work) ∙ cleared_part k work (replicate k 0) le (zeros_fit k work le)

pub length_kept : (k : ℕ) (work : List ℕ) → k ≤ length work → length (cleared k work) ≡ length work
length_kept k work le = ap length (cleared_is k work) ∙ length_front work (replicate k 0) k (zeros_fit k work le)

-- ---- a kernel has its taps
kernel_long : (table : List Float) (k taps : ℕ) → k < kernels (length table) → taps ≤ 33 → length (kernel_of table k taps) ≡ taps
unfolding kernel_of max_taps
kernel_long table k taps l within =
    length-take-le (min taps 33) (drop (33 * k) table) (rw (length-drop (33 * k) table) (omega (arith, inside (length table) k l, min-le_right taps 33))) ∙ min-eq_left within

pub kernel_length : (table : List Float) (k taps : ℕ) → k < kernels (length table) → wrong_taps taps ≡ false → length (kernel_of table k taps) ≡ taps
unfolding wrong_taps zero_or_above max_taps
kernel_length table k taps l few = kernel_long table k taps l (ltb-false 33 taps (neither (eqb taps 0) _ few).1)

-- ---- the checks of a good recipe, one by one
shift_good : (step : Step) → 0 ≡ first_of (shift_own step) → wrong_offsets step.dx step.dy ≡ false
shift_good step own = (passed _ _ (lit< tt) own).0

blur_good : (table : List Float) (step : Step) → 0 ≡ first_of (kernel_own table step ++ blur_own step) →
    (wrong_taps step.taps ≡ false) × (any_outside (step_kernel table step) ≡ false) × (too_deep step.n ≡ false) × (not (finite step.strength) ≡ false) × (wrong_edge step.edge ≡ false)
blur_good table step own =
    let four = passed _ _ (lit< tt) own in
    let five = passed _ _ (lit< tt) four.1 in
    let six = passed _ _ (lit< tt) five.1 in
    let seven = passed _ _ (lit< tt) six.1 in
    let nine = passed _ _ (lit< tt) seven.1 in
    (four.0, five.0, six.0, seven.0, nine.0)

shadow_good : (table : List Float) (step : Step) → 0 ≡ first_of (kernel_own table step ++ shadow_own step) →
    (wrong_taps step.taps ≡ false) × (any_outside (step_kernel table step) ≡ false) × (too_deep step.n ≡ false) × (not_finite (recipe_of step) ≡ false) × (wrong_colour (recipe_of step) ≡ false) × (wrong_edge step.edge ≡ false)
shadow_good table step own =
    let four = passed _ _ (lit< tt) own in
    let five = passed _ _ (lit< tt) four.1 in
    let six = passed _ _ (lit< tt) five.1 in
    let seven = passed _ _ (lit< tt) six.1 in
    let eight = passed _ _ (lit< tt) seven.1 in
    let nine = passed _ _ (lit< tt) eight.1 in
    (four.0, five.0, six.0, seven.0, eight.0, nine.0)

-- ---- the single call of a good recipe
-- what a call that is done leaves of its picture and its work buffers
pub record Left (w h : ℕ) (made s c : List ℕ) (l : LentCopy) : Type 0 where
  pub picture_is : l.picture ≡ made
  pub scratch_is : cleared (bytes_of w h) l.scratch ≡ cleared (bytes_of w h) s
  pub scratch_long : length l.scratch ≡ length s
  pub copy_is : cleared (bytes_of w h) l.copy ≡ cleared (bytes_of w h) c
  pub copy_long : length l.copy ≡ length c

module _ (table : List Float) (w h : ℕ) (step : Step) (p s c : List ℕ) (framed : Framed w h (length p) (length s) (length c)) where
  abbrev Calls : Type 0
  Calls = ((single_call table w h step (lent_copy p s c)).number ≡ 0) × Left w h (worked table w h step p) s c (single_call table w h step (lent_copy p s c)).left

  s_fits : bytes_of w h ≤ length s
  unfolding too_short
  s_fits = ltb-false (length s) (bytes_of w h) framed.scratch_room

  c_fits : bytes_of w h ≤ length c
  unfolding too_short
  c_fits = ltb-false (length c) (bytes_of w h) framed.copy_room

  left_of : (ys yc : List ℕ) → single_call table w h step (lent_copy p s c) ≡ answered 0 (lent_copy (worked table w h step p) ys yc) →
      cleared (bytes_of w h) ys ≡ cleared (bytes_of w h) s → length ys ≡ length s → cleared (bytes_of w h) yc ≡ cleared (bytes_of w h) c → length yc ≡ length c → Calls
  left_of ys yc e es ls ec lc = rw e (refl, record { picture_is = refl; scratch_is = es; scratch_long = ls; copy_is = ec; copy_long = lc })

  shifts : unknown (length table) step ≡ false → eqb step.operation 1 ≡ true → 0 ≡ first_of (shift_own step) → Calls
  unfolding single_call worked shift_outcome first_of first_else settled
  shifts known is own =
      left_of s c (rw (known, is, framed.sides, framed.exact, shift_good step own)) refl refl refl refl

  module _ (known : unknown (length table) step ≡ false) (other : eqb step.operation 1 ≡ false) where
    taps_are : wrong_taps step.taps ≡ false → wrong_taps (length (step_kernel table step)) ≡ false
    taps_are few = rw (kernel_length table step.kernel step.taps (known_kernel (length table) step known (eqb-false step.operation 1 other)) few) few

    blurs : eqb step.operation 0 ≡ true → 0 ≡ first_of (kernel_own table step ++ blur_own step) → Calls
    unfolding single_call kernel_call worked blur_outcome first_of first_else settled
    blurs is own =
        let good = blur_good table step own in
        left_of (cleared (bytes_of w h) s) c
        (rw (known, other, is, framed.sides, framed.exact, framed.scratch_room, taps_are good.0, good.1, good.2, good.3, good.4))
        (cleared_again (bytes_of w h) s s_fits) (length_kept (bytes_of w h) s s_fits) refl refl

    casts : eqb step.operation 0 ≡ false → 0 ≡ first_of (kernel_own table step ++ shadow_own step) → Calls
    unfolding single_call kernel_call worked shadow_outcome either_short first_of first_else settled
    casts is own =
        let good = shadow_good table step own in
        left_of (cleared (bytes_of w h) s) (cleared (bytes_of w h) c)
        (rw (known, other, is, framed.sides, framed.exact, framed.scratch_room, framed.copy_room, taps_are good.0, good.1, good.2, good.3, good.4, good.5))
        (cleared_again (bytes_of w h) s s_fits) (length_kept (bytes_of w h) s s_fits) (cleared_again (bytes_of w h) c c_fits) (length_kept (bytes_of w h) c c_fits)

    by_kernel : (b : Bool) → eqb step.operation 0 ≡ b → 0 ≡ first_of (kernel_own table step ++ cond b (blur_own step) (shadow_own step)) → Calls
    by_kernel true is own = blurs is own
    by_kernel false is own = casts is own

  by_operation : unknown (length table) step ≡ false → (b : Bool) → eqb step.operation 1 ≡ b →
      0 ≡ first_of (cond b (shift_own step) (kernel_own table step ++ cond (eqb step.operation 0) (blur_own step) (shadow_own step))) → Calls
  by_operation known true is own = shifts known is own
  by_operation known false is own = by_kernel known is (eqb step.operation 0) refl own

  pub calls : own_number table step ≡ 0 → Calls
  unfolding own_number
  calls good = let own = passed _ _ (lit< tt) (sym good) in by_operation own.0 (eqb step.operation 1) refl own.1

-- ---- a recipe that 19 lets through, good or not, and that has at most 33 taps where it reads a kernel: its single call answers its own number
number_by : {A : Type 0} (k : ℕ) (a b : A) (t : Bool) → eqb k 0 ≡ t → (cond t (answered 0 b) (answered k a)).number ≡ k
number_by k a b true e = sym (eqb-true k 0 e)
number_by k a b false e = refl

pub settled_number : {A : Type 0} (k : ℕ) (a b : A) → (settled k a b).number ≡ k
unfolding settled
settled_number k a b = number_by k a b (eqb k 0) refl

module _ (table : List Float) (w h : ℕ) (step : Step) (p s c : List ℕ) (framed : Framed w h (length p) (length s) (length c)) (known : unknown (length table) step ≡ false) (within : (step.operation ≡ 1 → ⊥) → step.taps ≤ 33) where
  abbrev Answers : Type 0
  Answers = (single_call table w h step (lent_copy p s c)).number ≡ own_number table step

  shift_alike : first_of (shift_checks (length p) w h step.dx step.dy) ≡ first_of (shift_own step)
  unfolding first_of first_else
  shift_alike = rw (framed.sides, framed.exact)

  blur_alike : length (step_kernel table step) ≡ step.taps →
      first_of (blur_checks (length p) w h (length s) (step_kernel table step) step.n step.strength step.edge) ≡ first_of (kernel_own table step ++ blur_own step)
  unfolding first_of first_else
  blur_alike long = rw (framed.sides, framed.exact, framed.scratch_room, long)

  shadow_alike : length (step_kernel table step) ≡ step.taps →
      first_of (shadow_checks (length p) w h (length s) (length c) (step_kernel table step) step.n step.edge (recipe_of step)) ≡ first_of (kernel_own table step ++ shadow_own step)
  unfolding first_of first_else either_short
  shadow_alike long = rw (framed.sides, framed.exact, framed.scratch_room, framed.copy_room, long)

  own_past : (k : ℕ) → k ≡ first_of (operation_own table step) → k ≡ own_number table step
  own_past k e = own_is table step known e

  kernel_fits : eqb step.operation 1 ≡ false → length (step_kernel table step) ≡ step.taps
  kernel_fits other =
      let no_shift = eqb-false step.operation 1 other in
      kernel_long table step.kernel step.taps (known_kernel (length table) step known no_shift) (within no_shift)

  by_kernel_answers : (b : Bool) → eqb step.operation 0 ≡ b → eqb step.operation 1 ≡ false → Answers
  unfolding single_call kernel_call blur_outcome shadow_outcome
  by_kernel_answers true is other = own_past _ (rw (known, other, is) (settled_number _ _ _ ∙ blur_alike (kernel_fits other)))
  by_kernel_answers false is other = own_past _ (rw (known, other, is) (settled_number _ _ _ ∙ shadow_alike (kernel_fits other)))

  by_answers : (b : Bool) → eqb step.operation 1 ≡ b → Answers
  unfolding single_call shift_outcome
  by_answers true is = own_past _ (rw (known, is) (settled_number _ _ _ ∙ shift_alike))
  by_answers false other = by_kernel_answers (eqb step.operation 0) refl other

  pub own_answered : Answers
  own_answered = by_answers (eqb step.operation 1) refl
