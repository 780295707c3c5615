-- Refused by 1 to 3, or by a recipe's own; or each turn runs one recipe more, and what is left is what the chain comes to.
use Rattle.std.proofs.Common.{ℕ, ◌≡◌, suc, ◌∙◌, sym, ap, add-one, length, drop, ◌≤◌, false, arith}
use borrow.Author.Tests.{ltb-false}
use Rattle.std.proofs.lemmas.Result.{err_from_is_err_and}
use Rattle.picture.specs.Planes.{bytes_of}
use Rattle.picture.specs.Sizes.{full_bytes}
use Rattle.picture.specs.Answer.{Answer, LentCopy, lent_copy}
use Rattle.picture.specs.Refusal.{number_of, first_of, too_short}
use Rattle.picture.proofs.Refused.{number_some}
use Rattle.picture.proofs.Sizes.{full_sized}
use Rattle.recipe_checks.specs.declared.Step.{Step}
use Rattle.recipe_checks.specs.Own.{frame_checks}
use Rattle.recipe_checks.specs.Single.{single_call}
use Rattle.recipes.specs.Chain.{step_at, all_ran}
use Rattle.recipes.proofs.Folds.{ran_more, none_ran}
use Rattle.recipes.proofs.Found.{is_first}
use Rattle.recipes.proofs.OneCall.{Framed}
use Rattle.recipes.proofs.Done.{framed_of, refused_frame, refused_step, comes_to}
use Rattle.recipes.proofs.recipes.Goals.{In_ok-check_frame, After-bytes-k}
use Rattle.recipes.proofs.recipes.Goals as goal

pub returns-in_err-check_frame : goal.returns-in_err-check_frame
unfolding number_of
returns-in_err-check_frame c =
    let a = c.args in
    let r = c.in_err-check_frame.field-0.0 in
    let p = err_from_is_err_and c.from_residual.result c.from_residual.ensures.1 in
    rw (p.1, p.2)
    (refused_frame a.picture.now a.w a.h a.scratch.now a.copy.now a.steps.now a.table.now _ (λ z. omega (arith, number_some r, z)) c.in_err-check_frame.ensures)

-- 1 to 3 let through
passed : (c : In_ok-check_frame) → let a = c.args in first_of (frame_checks (length a.picture.now) a.w a.h (length a.scratch.now) (length a.copy.now)) ≡ 0
unfolding number_of
passed c = sym c.in_ok-check_frame.ensures

framed : (c : In_ok-check_frame) → let a = c.args in Framed a.w a.h (length a.picture.now) (length a.scratch.now) (length a.copy.now)
framed c = framed_of _ _ _ _ _ (passed c)

pub returns-in_err-check_steps : goal.returns-in_err-check_steps
returns-in_err-check_steps c =
    let a = c.args in
    let s = c.in_err-check_steps.field-0.0 in
    let p = err_from_is_err_and c.from_residual-in_err-check_steps.result c.from_residual-in_err-check_steps.ensures.1 in
    rw (p.1, p.2)
    (refused_step a.picture.now a.w a.h a.scratch.now a.copy.now a.steps.now a.table.now _ (λ z. omega (arith, number_some s.refusal, z))
    (passed (goal.at.returns-in_err-check_steps c).In_ok-check_frame) (c.in_err-check_steps.ensures ∙ is_first a.table.now 0 a.steps.now))

pub loop-i-preserved : goal.loop-i-preserved
unfolding step_at
loop-i-preserved c =
    let a = c.args in
    let table = a.table.now in
    let steps = a.steps.now in
    let l = lent_copy c.loop-i.picture c.loop-i.scratch c.loop-i.copy in
    let i = c.loop-i.i in
    rw add-one
    (ap (all_ran table a.w a.h (drop (suc i) steps))
    (ap (λ (o : Answer LentCopy). o.left) c.call.ensures ∙ ap (λ (step : Step). (single_call table a.w a.h step l).left) c.step_at-step.ensures)
    ∙ sym (ran_more table a.w a.h steps i l c.loop-i-test.true)
    ∙ c.loop-i.invariant)

pub full_size-requires : goal.full_size-requires
full_size-requires c = (framed (goal.at.full_size-requires c).In_ok-check_frame).sides

pub bytes-k-requires : goal.bytes-k-requires
bytes-k-requires c = rw c.full_size.ensures (full_sized _ _ (framed (goal.at.bytes-k-requires c).In_ok-check_frame).sides)

-- what is cleared: 4wh bytes
k-is : (c : After-bytes-k) → let a = c.args in c.bytes-k.result ≡ bytes_of a.w a.h
k-is c = c.bytes-k.ensures ∙ ap full_bytes c.full_size.ensures

-- for which both work buffers have room
roomy : (k w h long now : ℕ) → k ≡ bytes_of w h → too_short long w h ≡ false → now ≡ long → k ≤ now
unfolding too_short
roomy k w h long now e f same = omega (arith, e, same, ltb-false _ _ f)

pub clear-requires : goal.clear-requires
clear-requires c =
    let at = goal.at.clear-requires c in
    roomy _ c.args.w c.args.h (length c.args.scratch.now) _ (k-is at.After-bytes-k) (framed at.In_ok-check_frame).scratch_room c.loop-i.auto.scratch

pub clear-requires-2 : goal.clear-requires-2
clear-requires-2 c =
    let at = goal.at.clear-requires-2 c in
    roomy _ c.args.w c.args.h (length c.args.copy.now) _ (k-is at.After-bytes-k) (framed at.In_ok-check_frame).copy_room c.loop-i.auto.copy

pub returns : goal.returns
returns c =
    let at = goal.at.returns c in
    let a = c.args in
    let table = a.table.now in
    let steps = a.steps.now in
    let l = lent_copy c.loop-i.picture c.loop-i.scratch c.loop-i.copy in
    let all = sym (none_ran table a.w a.h steps c.loop-i.i l c.loop-i-test.false) ∙ c.loop-i.invariant in
    rw (c.clear.ensures, c.clear-2.ensures, k-is at.After-bytes-k)
    (comes_to a.picture.now a.w a.h a.scratch.now a.copy.now steps table (passed at.In_ok-check_frame) (c.in_ok-check_steps.ensures ∙ is_first table 0 steps) c.loop-i.picture c.loop-i.scratch c.loop-i.copy all)
