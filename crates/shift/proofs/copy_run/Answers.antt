-- Onto itself there is nothing to do.
use Rattle.picture.proofs.Placed.{copied_still}
use Rattle.shift.proofs.copy_run.Goals as goal

pub returns-then-from-to : goal.returns-then-from-to
returns-then-from-to c = let a = c.args in copied_still a.n a.from a.to a.bytes.now c.if-from-to.true
