-- The rest of the list is lent, and its first n bytes are set to zero.
use native.Mathlib.Omega.{arith}
use Rattle.shift.proofs.Zeroed.{cleared_run}
use Rattle.shift.proofs.clear_run.Goals as goal

pub returns : goal.returns
returns c =
    let a = c.args in
    rw c.clear.ensures (cleared_run a.bytes.now a.start a.n (omega arith))
