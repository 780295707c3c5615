-- The blur's own promise: w = 0 is refused by check 1, whatever else the call is given, and a refusal leaves the buffers as they were.
use mathlib.Core.Path.{◌∙◌, ap}
use Rattle.picture.specs.Answer.{Answer, settled, Lent}
use Rattle.picture.specs.Refusal.{first_else, first_of, zero_or_above, wrong_sides}
use Rattle.gaussian_blur.specs.Outcome.{blur_outcome}
use Rattle.client_examples.proofs.no_width.Goals as goal

pub returns : goal.returns
unfolding blur_outcome settled first_of first_else zero_or_above wrong_sides
returns c =
    let e = c.blur-answer.ensures in
    (c.number_of.ensures ∙ ap (λ (a : Answer Lent). a.number) e, ap (λ (a : Answer Lent). a.left.picture) e, ap (λ (a : Answer Lent). a.left.scratch) e)
