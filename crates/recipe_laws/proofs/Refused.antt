-- The first bad recipe of a list: where it stands, and that its single call answers the list's number.
use mathlib.Core.Path.{◌≡◌, refl, sym, ◌∙◌, ap, subst}
use mathlib.Core.Bool.{Bool, true, false, cond}
use mathlib.Core.List.{List, [], ◌∷◌}
use Prim.Native.Nat.{ℕ, zero, suc, ◌+◌, ◌≤◌, ◌<◌}
use native.Mathlib.Nat.{zero-add}
use native.Mathlib.Omega.{arith}
use lib.Dec.{eqb}
use lib.Ieee.{Float}
use lib.ListN.{length}
use borrow.Author.Tests.{eqb-true, ne_eqb, lt-ltb}
use Rattle.picture.specs.Answer.{LentCopy}
use Rattle.picture.specs.Refusal.{first_else, first_of, zero_or_above, wrong_sides, wrong_length, max_taps, wrong_taps}
use Rattle.gaussian_blur.specs.Outcome.{blur_outcome}
use Rattle.drop_shadow.specs.Outcome.{either_short, shadow_outcome}
use Rattle.recipe_checks.specs.declared.Step.{Step}
use Rattle.recipe_checks.specs.Own.{Chained, unknown, own_number, frame_checks, found}
use Rattle.recipe_checks.specs.Single.{kernel_call, single_call}
use Rattle.recipe_checks.proofs.Known.{own_is}
use Rattle.recipes.specs.Chain.{ChainLeft, chain_found, first_bad, step_at}
use Rattle.recipes.proofs.Done.{framed_of}
use Rattle.recipes.proofs.OneCall.{Framed, settled_number, own_answered}
use Rattle.recipe_laws.specs.Calls.{ListCall, OfCalls}
use Rattle.recipe_laws.specs.Refused.{ReadsKernel, Long, FirstRefused, FirstRefusedOnly}
use Rattle.recipe_laws.proofs.Calls.{Promised, of_calls, found_of, reading}

-- ---- where the first bad recipe stands, in a list counted from i
record FirstBad (table : List Float) (i : ℕ) (steps : List Step) (r : Chained) : Type 0 where
  at : ℕ
  index_is : r.index ≡ i + at
  within : at < length steps
  own : own_number table (step_at steps at) ≡ r.number
  before : (j : ℕ) → j < at → own_number table (step_at steps j) ≡ 0

-- one recipe more in front of it that is good
after_good : (table : List Float) (i : ℕ) (step : Step) (steps : List Step) (r : Chained) → own_number table step ≡ 0 → FirstBad table (suc i) steps r → FirstBad table i (step ∷ steps) r
unfolding step_at
after_good table i step steps r good b =
    record { at = suc b.at; index_is = b.index_is ∙ omega arith; within = omega (arith, b.within); own = b.own; before = earlier }
  where
    earlier : (j : ℕ) → j < suc b.at → own_number table (step_at (step ∷ steps) j) ≡ 0
    earlier zero l = good
    earlier (suc j) l = b.before j (omega arith)

by_head : (table : List Float) (i : ℕ) (step : Step) (steps : List Step) → (((first_bad table (suc i) steps).number ≡ 0 → ⊥) → FirstBad table (suc i) steps (first_bad table (suc i) steps)) →
    (b : Bool) → eqb (own_number table step) 0 ≡ b → ((cond b (first_bad table (suc i) steps) (found (own_number table step) i)).number ≡ 0 → ⊥) →
    FirstBad table i (step ∷ steps) (cond b (first_bad table (suc i) steps) (found (own_number table step) i))
unfolding step_at
by_head table i step steps later true e f = after_good table i step steps (first_bad table (suc i) steps) (eqb-true (own_number table step) 0 e) (later f)
by_head table i step steps later false e f = record { at = 0; index_is = omega arith; within = omega arith; own = refl; before = λ j l. absurd (omega arith) }

first_bad_lem : (table : List Float) (i : ℕ) (steps : List Step) → ((first_bad table i steps).number ≡ 0 → ⊥) → FirstBad table i steps (first_bad table i steps)
unfolding first_bad
first_bad_lem table i [] f = absurd (f refl)
first_bad_lem table i (step ∷ steps) f = by_head table i step steps (first_bad_lem table (suc i) steps) (eqb (own_number table step) 0) refl f

-- ---- past 1, 2 and 3
one_of_three : (a b c : Bool) → cond a 1 (cond b 2 (cond c 3 0)) ≤ 3
one_of_three true b c = omega arith
one_of_three false true c = omega arith
one_of_three false false true = omega arith
one_of_three false false false = omega arith

at_most_three : (p w h s c : ℕ) → first_of (frame_checks p w h s c) ≤ 3
unfolding first_of first_else
at_most_three p w h s c = one_of_three (wrong_sides w h) (wrong_length p w h) (either_short s c w h)

past_three : (later : Chained) (frame : ℕ) (b : Bool) → eqb frame 0 ≡ b → frame ≤ 3 → 3 < (cond b later (found frame 0)).number → (frame ≡ 0) × (cond b later (found frame 0) ≡ later)
past_three later frame true e most above = (eqb-true frame 0 e, refl)
past_three later frame false e most above = absurd (omega arith)

-- ---- its single call alone
module _ (table : List Float) (w h : ℕ) (step : Step) (l : LentCopy) (framed : Framed w h (length l.picture) (length l.scratch) (length l.copy)) where
  by_known : (ReadsKernel table step → step.taps ≤ 33) → (b : Bool) → unknown (length table) step ≡ b → (single_call table w h step l).number ≡ own_number table step
  unfolding single_call own_number first_of first_else
  by_known few true is = rw is
  by_known few false known = own_answered table w h step l.picture l.scratch l.copy framed known (λ other. few (record { known = known; no_shift = other }))

  answers : (ReadsKernel table step → step.taps ≤ 33) → (single_call table w h step l).number ≡ own_number table step
  answers few = by_known few (unknown (length table) step) refl

  -- a call with a kernel of a wrong length
  refuses_taps : (weights : List Float) → wrong_taps (length weights) ≡ true → (b : Bool) → eqb step.operation 0 ≡ b → (kernel_call weights w h step l).number ≡ 4
  unfolding kernel_call blur_outcome shadow_outcome first_of first_else either_short
  refuses_taps weights wrong true is = rw is (settled_number _ _ _ ∙ rw (framed.sides, framed.exact, framed.scratch_room, wrong))
  refuses_taps weights wrong false is = rw is (settled_number _ _ _ ∙ rw (framed.sides, framed.exact, framed.scratch_room, framed.copy_room, wrong))

-- more taps than a kernel has
too_many : (taps : ℕ) → 33 < taps → wrong_taps taps ≡ true
unfolding wrong_taps zero_or_above max_taps
too_many taps above = rw (ne_eqb taps 0 (λ z. omega arith), lt-ltb 33 taps above)

own_four : (table : List Float) (step : Step) → ReadsKernel table step → 33 < step.taps → own_number table step ≡ 4
unfolding first_of first_else
own_four table step reads above = sym (own_is table step reads.known (rw (ne_eqb step.operation 1 reads.no_shift, too_many step.taps above)))

module _ (table : List Float) (w h : ℕ) (p s c : List ℕ) (steps : List Step) where
  abbrev fd : Chained
  fd = chain_found (length p) w h (length s) (length c) steps table

  abbrev frame : ℕ
  frame = first_of (frame_checks (length p) w h (length s) (length c))

  -- more than 3 was found: 1 to 3 let through, and it is the first bad recipe's
  of_list : 3 < fd.number → (frame ≡ 0) × (fd ≡ first_bad table 0 steps)
  unfolding chain_found
  of_list above = past_three (first_bad table 0 steps) frame (eqb frame 0) refl (at_most_three (length p) w h (length s) (length c)) above

  of_found : 3 < fd.number → FirstRefused table w h (length p) (length s) (length c) steps fd
  of_found above =
      let was = of_list above in
      let bad : FirstBad table 0 steps fd = subst (FirstBad table 0 steps) (sym was.1) (first_bad_lem table 0 steps (λ z. omega (arith, above, ap (λ (d : Chained). d.number) was.1, z))) in
      let at-is : fd.index ≡ bad.at = bad.index_is ∙ zero-add bad.at in
      let own : own_number table (step_at steps fd.index) ≡ fd.number = ap (λ (i : ℕ). own_number table (step_at steps i)) at-is ∙ bad.own in
      let framed-on : (l : LentCopy) → Long (length p) (length s) (length c) l → Framed w h (length l.picture) (length l.scratch) (length l.copy) =
      λ l long. rw (long.picture_is, long.scratch_is, long.copy_is) (framed_of w h (length p) (length s) (length c) was.0) in
      record {
        within = rw at-is bad.within;
        before = λ j l. bad.before j (subst (λ (i : ℕ). j < i) at-is l);
        alone = λ few l long. answers table w h (step_at steps fd.index) l (framed-on l long) few ∙ own;
        overlong = λ reads above. (
          sym own ∙ own_four table (step_at steps fd.index) reads above,
          λ weights many l long. refuses_taps table w h (step_at steps fd.index) l (framed-on l long) weights (rw many (too_many (step_at steps fd.index).taps above)) (eqb (step_at steps fd.index).operation 0) refl,
        );
      }

of_call : (k : ListCall) → Promised k → FirstRefusedOnly k
of_call k e above =
    let was = reading k e in
    let same : k.answer ≡ found_of k = λ i. record { number = was.number i; index = ap (λ (d : ChainLeft). d.index) (was.unchanged (λ z. omega (arith, above, z))) i } in
    subst (FirstRefused k.table k.w k.h (length k.before.picture) (length k.before.scratch) (length k.before.copy) k.steps) (sym same)
    (of_found k.table k.w k.h k.before.picture k.before.scratch k.before.copy k.steps (rw (sym was.number) above))

pub first_refused : OfCalls FirstRefusedOnly
first_refused = of_calls FirstRefusedOnly of_call
