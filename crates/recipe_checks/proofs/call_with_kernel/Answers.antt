-- Each way out is the entry's own outcome.
use mathlib.Core.Path.{◌∙◌, ap}
use borrow.Author.Tests.{eq-eqb, ne_eqb}
use Rattle.picture.specs.Answer.{Answer, Lent}
use Rattle.drop_shadow.specs.Outcome.{shadow_outcome}
use Rattle.drop_shadow.specs.declared.Recipe.{Recipe}
use Rattle.recipe_checks.specs.Single.{beside_copy, composited, kernel_call}
use Rattle.recipe_checks.proofs.call_with_kernel.Goals as goal

pub returns-then-step-eq-BLUR : goal.returns-then-step-eq-BLUR
unfolding kernel_call
returns-then-step-eq-BLUR c =
    let a = c.args in
    rw (eq-eqb _ 0 c.if-step-eq-BLUR.true) (ap (λ (o : Answer Lent). beside_copy o a.copy.now) c.blur.ensures)

pub returns : goal.returns
unfolding kernel_call
returns c =
    let a = c.args in
    let s = a.step in
    rw (ne_eqb _ 0 c.if-step-eq-BLUR.false)
    (c.shadow.ensures
    ∙ ap (λ (r : Recipe). shadow_outcome a.picture.now a.w a.h a.scratch.now a.copy.now a.weights.now s.n s.edge r (composited s)) c.recipe_of-recipe.ensures)
