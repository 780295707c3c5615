-- Each way out is one case of the definition.
use borrow.Author.Tests.{lt-ltb, le-ltb, eq-eqb, ne_eqb}
use Rattle.picture.specs.Refusal.{max_taps}
use Rattle.recipe_checks.specs.Own.{kernels, unknown}
use Rattle.recipe_checks.proofs.is_unknown.Goals as goal

pub returns-then-step-gt-SHADOW : goal.returns-then-step-gt-SHADOW
unfolding unknown
returns-then-step-gt-SHADOW c = rw (lt-ltb 2 _ c.if-step-gt-SHADOW.true)

pub returns-then-step-eq-SHIFT : goal.returns-then-step-eq-SHIFT
unfolding unknown
returns-then-step-eq-SHIFT c = rw (le-ltb 2 _ c.if-step-gt-SHADOW.false, eq-eqb _ 1 c.if-step-eq-SHIFT.true)

pub returns : goal.returns
unfolding unknown kernels max_taps
returns c = rw (le-ltb 2 _ c.if-step-gt-SHADOW.false, ne_eqb _ 1 c.if-step-eq-SHIFT.false)
