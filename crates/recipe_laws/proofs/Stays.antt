-- Premultiplied stays premultiplied over a list of recipes: by one step, by the list, and by the entry's contract.
use mathlib.Core.Path.{◌≡◌, refl, sym, subst}
use mathlib.Core.Bool.{Bool, true, false, cond}
use mathlib.Core.List.{List, [], ◌∷◌, ◌++◌}
use Prim.Native.Nat.{ℕ, suc}
use native.Mathlib.Omega.{arith}
use lib.Dec.{eqb, lit<}
use lib.Ieee.{Float}
use lib.ListN.{length}
use borrow.Author.Tests.{eqb-false}
use Rattle.picture.specs.Modes.{mode_of}
use Rattle.picture.specs.Refusal.{Check, first_of}
use Rattle.picture.proofs.Passed.{passed}
use Rattle.binary32.specs.Round.{whole_offset}
use Rattle.kept.proofs.Left.{either_way}
use Rattle.passes.specs.Kernel.{Kernel}
use Rattle.exact_blur.specs.Demand.{Bytes}
use Rattle.premultiplied.specs.Rule.{Premultiplied}
use Rattle.premultiplied.specs.Stays.{KeepsPremultiplied}
use Rattle.premultiplied.proofs.Checked.{under_alpha}
use Rattle.premultiplied.proofs.Entries.{stays_premultiplied}
use Rattle.recipe_checks.specs.declared.Step.{Step}
use Rattle.recipe_checks.specs.Own.{unknown, step_kernel, recipe_of, kernel_own, blur_own, shadow_own, shift_own, own_number, frame_checks}
use Rattle.recipe_checks.specs.Single.{composited, worked}
use Rattle.recipe_checks.proofs.Known.{known_kernel}
use Rattle.recipes.specs.Chain.{ChainLeft, chain_left, chain_outcome, chain_found, first_bad, chained}
use Rattle.recipes.proofs.Found.{head_good, none_by}
use Rattle.recipes.proofs.OneCall.{kernel_length}
use Rattle.recipe_laws.specs.Calls.{ListCall}
use Rattle.recipe_laws.specs.Stays.{LeavesNone, ListStays}
use Rattle.recipe_laws.proofs.Calls.{Promised, of_calls}

-- one work after another
kept_by_both : (w h : ℕ) (f g : List ℕ → List ℕ) → KeepsPremultiplied w h f → KeepsPremultiplied w h g → KeepsPremultiplied w h (λ p. g (f p))
kept_by_both w h f g kf kg =
    record { bytes = λ p b. kg.bytes (f p) (kf.bytes p b); premultiplied = λ p b pre. kg.premultiplied (f p) (kf.bytes p b) (kf.premultiplied p b pre) }

-- the same work by another name
kept_as : (w h : ℕ) (f g : List ℕ → List ℕ) → ((p : List ℕ) → g p ≡ f p) → KeepsPremultiplied w h f → KeepsPremultiplied w h g
kept_as w h f g same kf =
    record {
      bytes = λ p b. subst Bytes (sym (same p)) (kf.bytes p b);
      premultiplied = λ p b pre. subst (Premultiplied w h) (sym (same p)) (kf.premultiplied p b pre);
    }

module _ (table : List Float) (w h : ℕ) (step : Step) (known : unknown (length table) step ≡ false) where
  abbrev Keeps : Type 0
  Keeps = KeepsPremultiplied w h (worked table w h step)

  -- checks 4 and 5 let its kernel through
  kernel_of_lem : eqb step.operation 1 ≡ false → (late : List Check) → 0 ≡ first_of (kernel_own table step ++ late) → Kernel (step_kernel table step)
  kernel_of_lem other late own =
      let four = passed _ _ (lit< tt) own in
      let five = passed _ _ (lit< tt) four.1 in
      let in_table = known_kernel (length table) step known (eqb-false step.operation 1 other) in
      record { counted = rw (kernel_length table step.kernel step.taps in_table four.0) four.0; in_unit = five.0 }

  by_operation : (b d : Bool) → eqb step.operation 1 ≡ b → eqb step.operation 0 ≡ d → 0 ≡ first_of (cond b (shift_own step) (kernel_own table step ++ cond d (blur_own step) (shadow_own step))) → Keeps
  unfolding worked
  by_operation true d is e own = kept_as w h _ _ (λ p. rw is) (stays_premultiplied.shifts (whole_offset step.dx) (whole_offset step.dy) w h)
  by_operation false true other is own = kept_as w h _ _ (λ p. rw (other, is)) (stays_premultiplied.blurs (mode_of step.edge) (step_kernel table step) (kernel_of_lem other (blur_own step) own) step.n step.strength w h)
  by_operation false false other is own = kept_as w h _ _ (λ p. rw (other, is)) (stays_premultiplied.shadows (mode_of step.edge) (step_kernel table step) step.n (recipe_of step) (composited step) w h)

-- a good recipe
step_keeps : (table : List Float) (w h : ℕ) (step : Step) → own_number table step ≡ 0 → KeepsPremultiplied w h (worked table w h step)
unfolding own_number
step_keeps table w h step good = let own = passed _ _ (lit< tt) (sym good) in by_operation table w h step own.0 (eqb step.operation 1) (eqb step.operation 0) refl refl own.1

list_keeps : (table : List Float) (w h i : ℕ) (steps : List Step) → (first_bad table i steps).number ≡ 0 → KeepsPremultiplied w h (chained table w h steps)
unfolding chained
list_keeps table w h i [] none = record { bytes = λ p b. b; premultiplied = λ p b pre. pre }
list_keeps table w h i (step ∷ steps) none =
    let good = head_good table i step steps none in
    kept_by_both w h _ _ (step_keeps table w h step good.0) (list_keeps table w h (suc i) steps good.1)

list_leaves : (k : ListCall) → Promised k → LeavesNone k.w k.h k.before.picture k.after.picture
unfolding chain_outcome chain_found
list_leaves k e fit low =
    let frame = first_of (frame_checks (length k.before.picture) k.w k.h (length k.before.scratch) (length k.before.copy)) in
    let under = (under_alpha k.before.picture k.w k.h).1 low in
    (under_alpha k.after.picture k.w k.h).0
    (either_way (λ (l : ChainLeft). Premultiplied k.w k.h l.buffers.picture) _ _ _ k.answer.number (chain_left k.answer.index k.after) e under
    (λ z. (list_keeps k.table k.w k.h 0 k.steps (none_by k.table k.steps frame (eqb frame 0) refl (sym z)).1).premultiplied k.before.picture (λ i. omega (arith, (fit i).fits)) under))

pub list_stays : ListStays
list_stays = record { made = list_keeps; left = of_calls _ list_leaves }
