-- Each way out is one case of the definition.
use Rattle.std.proofs.Common.{sym, ◌∙◌}
use Rattle.grading.specs.Sampling.{viewed}
use Rattle.grading.proofs.Accepted.{refused, accepted}
use Rattle.grading.proofs.sampling.view_of.Goals as goal

pub returns-then-is_err : goal.returns-then-is_err
unfolding viewed
returns-then-is_err c = rw (refused _ _ _ _ _ c.check_view.ensures (sym c.is_err.ensures.value ∙ c.if-is_err.true))

pub returns : goal.returns
unfolding viewed
returns c = rw (accepted _ _ _ _ _ c.check_view.ensures (sym c.is_err.ensures.value ∙ c.if-is_err.false))
