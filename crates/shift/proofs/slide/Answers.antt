-- Only the difference of the offset's two numbers matters, and all bytes are moved by it as one run.
use mathlib.Core.Path.{◌∙◌}
use native.Mathlib.Omega.{arith}
use Rattle.shift.specs.Bytes.{along}
use Rattle.shift.proofs.Slid.{slid_same}
use Rattle.shift.proofs.Run.{run_all}
use Rattle.shift.proofs.slide.Goals as goal

pub returns : goal.returns
returns c =
    let a = c.args in
    let d = c.net.result in
    rw c.move_run.ensures (run_all (along d) a.bytes.now ∙ slid_same (along d) (along a.d) a.bytes.now (omega arith))
