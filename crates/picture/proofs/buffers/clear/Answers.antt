use mathlib.Core.Path.{sym}
use Rattle.std.proofs.Common.{length-take-le}
use Rattle.picture.proofs.Planes.{cleared_is}
use Rattle.picture.proofs.buffers.clear.Goals as goal

pub returns : goal.returns
returns c = let a = c.args in rw (c.fill.ensures.after (λ _ e. e), length-take-le a.n a.work.now c.requires) (sym (cleared_is a.n a.work.now))
