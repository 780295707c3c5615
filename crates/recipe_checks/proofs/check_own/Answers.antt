-- 19, or the operation's own number.
use mathlib.Core.Path.{◌≡◌, sym, ◌∙◌}
use mathlib.Core.Bool.{false}
use lib.ListN.{length}
use borrow.Author.Tests.{eq-eqb, ne_eqb}
use Rattle.std.proofs.lemmas.Result.{err_from_is_err_and}
use Rattle.picture.specs.Refusal.{number, number_of, first_else, first_of}
use Rattle.picture.proofs.Refused.{number_some, group_refuses}
use Rattle.recipe_checks.specs.Own.{unknown, kernel_own, blur_own, shadow_own, own_number}
use Rattle.recipe_checks.proofs.Known.{known_kernel, own_is, past_kernel}
use Rattle.recipe_checks.proofs.check_own.Goals as goal
use Rattle.recipe_checks.proofs.check_own.Goals.{Else-is_unknown}

pub returns-then-is_unknown : goal.returns-then-is_unknown
unfolding number number_of own_number first_of first_else
returns-then-is_unknown c = rw (sym c.is_unknown.ensures ∙ c.if-is_unknown.true)

known : (c : Else-is_unknown) → unknown (length c.args.table.now) c.args.step ≡ false
known c = sym c.is_unknown.ensures ∙ c.if-is_unknown.false

pub returns-then-step-eq-SHIFT : goal.returns-then-step-eq-SHIFT
returns-then-step-eq-SHIFT c =
    own_is _ _ (known (goal.at.returns-then-step-eq-SHIFT c).Else-is_unknown) (rw (eq-eqb _ 1 c.if-step-eq-SHIFT.true) c.check_shift.ensures)

pub check_kernel-requires : goal.check_kernel-requires
check_kernel-requires c = known_kernel _ _ (known (goal.at.check_kernel-requires c).Else-is_unknown) c.if-step-eq-SHIFT.false

pub returns-in_err-check_kernel : goal.returns-in_err-check_kernel
unfolding number_of
returns-in_err-check_kernel c =
    let a = c.args in
    let p = err_from_is_err_and c.from_residual.result c.from_residual.ensures.1 in
    rw (p.1, p.2)
    (own_is _ _ (known (goal.at.returns-in_err-check_kernel c).Else-is_unknown)
    (rw (ne_eqb _ 1 c.if-step-eq-SHIFT.false) (group_refuses (kernel_own a.table.now a.step) _ _ (number_some _) c.in_err-check_kernel.ensures)))

pub returns-then-step-eq-BLUR : goal.returns-then-step-eq-BLUR
unfolding number_of
returns-then-step-eq-BLUR c =
    let a = c.args in
    own_is _ _ (known (goal.at.returns-then-step-eq-BLUR c).Else-is_unknown)
    (rw (ne_eqb _ 1 c.if-step-eq-SHIFT.false, eq-eqb _ 0 c.if-step-eq-BLUR.true)
    (c.check_blur.ensures ∙ past_kernel a.table.now a.step (blur_own a.step) c.in_ok-check_kernel.ensures))

pub returns : goal.returns
unfolding number_of
returns c =
    let a = c.args in
    own_is _ _ (known (goal.at.returns c).Else-is_unknown)
    (rw (ne_eqb _ 1 c.if-step-eq-SHIFT.false, ne_eqb _ 0 c.if-step-eq-BLUR.false)
    (c.check_shadow.ensures ∙ past_kernel a.table.now a.step (shadow_own a.step) c.in_ok-check_kernel.ensures))
