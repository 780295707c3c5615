-- A list of recipes and its single calls one after the other: by induction over the list, and then by the contracts.
use mathlib.Core.Path.{◌≡◌, refl, sym, ◌∙◌, ap, subst}
use mathlib.Core.List.{List, [], ◌∷◌}
use Prim.Native.Nat.{ℕ, suc}
use lib.Dec.{eqb}
use lib.Ieee.{Float}
use lib.ListN.{length}
use Rattle.picture.specs.Planes.{bytes_of, cleared}
use Rattle.picture.specs.Refusal.{first_of}
use Rattle.picture.specs.Answer.{LentCopy, lent_copy}
use Rattle.recipe_checks.specs.declared.Step.{Step}
use Rattle.recipe_checks.specs.Own.{frame_checks}
use Rattle.recipe_checks.specs.Single.{single_call}
use Rattle.recipes.specs.Chain.{ChainLeft, first_bad, chain_found, all_ran}
use Rattle.recipes.proofs.Done.{framed_of, stepped, all_done}
use Rattle.recipes.proofs.Found.{head_good, none_by}
use Rattle.recipes.proofs.OneCall.{Framed}
use Rattle.recipe_laws.specs.Calls.{ListCall, OfCalls}
use Rattle.recipe_laws.specs.InOrder.{single_calls, all_answer, DoneWith, RefusedLeavesAll, LikeSingleCalls, EmptyKeeps}
use Rattle.recipe_laws.proofs.Calls.{Promised, of_calls, reading}

-- no recipe is bad: each single call along the list answers 0
all_answer_lem : (table : List Float) (w h i : ℕ) (steps : List Step) (p s c : List ℕ) → (first_bad table i steps).number ≡ 0 → Framed w h (length p) (length s) (length c) →
    all_answer table w h steps (lent_copy p s c)
unfolding all_answer
all_answer_lem table w h i [] p s c none framed = tt
all_answer_lem table w h i (step ∷ steps) p s c none framed =
    let good = head_good table i step steps none in
    let l = (single_call table w h step (lent_copy p s c)).left in
    let one = stepped table w h step p s c good.0 framed in
    (one.done, all_answer_lem table w h (suc i) steps l.picture l.scratch l.copy good.1 one.framed)

-- what the list runs are these calls
in_turn : (table : List Float) (w h : ℕ) (steps : List Step) (l : LentCopy) → single_calls table w h steps l ≡ all_ran table w h steps l
unfolding single_calls all_ran
in_turn table w h [] l = refl
in_turn table w h (step ∷ steps) l = in_turn table w h steps (single_call table w h step l).left

module _ (k : ListCall) (e : Promised k) where
  abbrev frame : ℕ
  frame = first_of (frame_checks (length k.before.picture) k.w k.h (length k.before.scratch) (length k.before.copy))

  leaves_all : RefusedLeavesAll k
  leaves_all refused = ap (λ (l : ChainLeft). l.buffers) ((reading k e).unchanged refused)

  in_order : LikeSingleCalls k
  unfolding chain_found
  in_order zero =
      let left = (reading k e).finished zero in
      let none = none_by k.table k.steps frame (eqb frame 0) refl (sym (reading k e).number ∙ zero) in
      let framed = framed_of k.w k.h (length k.before.picture) (length k.before.scratch) (length k.before.copy) none.0 in
      let ran = all_done k.table k.w k.h 0 k.steps k.before.picture k.before.scratch k.before.copy none.1 framed in
      let last = ap (λ (l : LentCopy). l.picture) (in_turn k.table k.w k.h k.steps k.before) ∙ ran.picture_is in (
        all_answer_lem k.table k.w k.h 0 k.steps k.before.picture k.before.scratch k.before.copy none.1 framed,
        record {
          answer_is = λ i. record { number = zero i; index = ap (λ (l : ChainLeft). l.index) left i };
          left_is =
              ap (λ (l : ChainLeft). l.buffers) left
              ∙ ap (λ (p : List ℕ). lent_copy p (cleared (bytes_of k.w k.h) k.before.scratch) (cleared (bytes_of k.w k.h) k.before.copy)) (sym last);
        },
      )

  keeps : EmptyKeeps k
  unfolding chain_found first_bad single_calls
  keeps none passes =
      let zero : k.answer.number ≡ 0 = (reading k e).number ∙ rw (passes, none) in
      subst (λ (p : List ℕ). DoneWith p k) (ap (λ (steps : List Step). (single_calls k.table k.w k.h steps k.before).picture) none) (in_order zero).1

pub checked_first : OfCalls RefusedLeavesAll
checked_first = of_calls RefusedLeavesAll leaves_all

pub as_single_calls : OfCalls LikeSingleCalls
as_single_calls = of_calls LikeSingleCalls in_order

pub empty : OfCalls EmptyKeeps
empty = of_calls EmptyKeeps keeps
