-- What stays inside is copied, and what is exposed before or after it is set to zero.
use mathlib.Core.Path.{ap, ◌∙◌}
use Prim.Native.Nat.{◌+◌, ◌-◌}
use Rattle.shift.specs.Bytes.{along, zeroed}
use Rattle.shift.proofs.Run.{run_cleared}
use Rattle.shift.proofs.move_run.Goals as goal

pub returns : goal.returns
returns c =
    let a = c.args in
    let kept = a.w - (a.d.plus + a.d.minus) in
    c.clear_run-2.ensures
    ∙ ap (zeroed (a.to + a.d.plus + kept) a.d.minus) (c.clear_run.ensures ∙ ap (zeroed a.to a.d.plus) c.copy_run.ensures)
    ∙ run_cleared (along a.d) a.w a.from a.to a.bytes.now c.requires.2 c.requires.3 c.requires.1
