-- Each turn checks one recipe more.
use Rattle.std.proofs.Common.{ℕ, ◌≡◌, ◌∙◌, sym, ap, add-one, cond, eqb, arith}
use Rattle.std.proofs.lemmas.Result.{err_from_is_err_and}
use Rattle.picture.proofs.Refused.{number_some}
use Rattle.recipe_checks.specs.declared.Step.{Step}
use Rattle.recipe_checks.specs.Own.{Chained, own_number, found}
use Rattle.recipes.specs.Chain.{step_at, no_step}
use Rattle.recipes.proofs.Folds.{good_here, bad_here, none_left}
use Rattle.recipes.proofs.Found.{is_first}
use Rattle.recipes.proofs.check_steps.Goals as goal

pub loop-i-preserved : goal.loop-i-preserved
unfolding step_at
loop-i-preserved c =
    let a = c.args in
    let i = c.loop-i.i in
    let own = ap (own_number a.table.now) c.step_at-step.ensures in
    let e = c.in_ok-check_at.ensures ∙ ap (λ (k : ℕ). cond (eqb k 0) (found 0 0) (found k i)) own in
    rw add-one (sym (good_here a.table.now a.steps.now i c.loop-i-test.true e) ∙ c.loop-i.invariant)

pub returns-in_err-check_at : goal.returns-in_err-check_at
unfolding step_at
returns-in_err-check_at c =
    let a = c.args in
    let i = c.loop-i.i in
    let p = err_from_is_err_and c.from_residual.result c.from_residual.ensures.1 in
    let stopped = c.in_err-check_at.field-0.0 in
    let own = ap (own_number a.table.now) c.step_at-step.ensures in
    let e = c.in_err-check_at.ensures ∙ ap (λ (k : ℕ). cond (eqb k 0) (found 0 0) (found k i)) own in
    rw (p.1, p.2)
    (bad_here a.table.now a.steps.now i c.loop-i-test.true _ (λ z. omega (arith, number_some stopped.refusal, z)) e ∙ c.loop-i.invariant ∙ sym (is_first a.table.now 0 a.steps.now))

pub returns : goal.returns
returns c =
    let a = c.args in
    sym (none_left a.table.now a.steps.now c.loop-i.i c.loop-i-test.false) ∙ c.loop-i.invariant ∙ sym (is_first a.table.now 0 a.steps.now)
