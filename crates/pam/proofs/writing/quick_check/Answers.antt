-- A picture that passes all three checks fits, and any other is the check's.
use borrow.Author.Rules.{rules}
use Rattle.picture.specs.Refusal.{first_else, first_of}
use Rattle.picture.specs.Answer.{settled}
use Rattle.grading.specs.Premultiplied.{checked}
use Rattle.pam.proofs.writing.quick_check.Goals as goal

pub returns-then-passes : goal.returns-then-passes
unfolding checked settled first_of first_else
returns-then-passes c = let t = c.passes.ensures c.if-passes.true in rw (t.sides, t.exact, t.scan)

pub returns : goal.returns
returns c = search rules
