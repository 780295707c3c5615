-- Each turn makes the outputs inside of one line more.
use Prim.Native.Nat.{◌*◌}
use Rattle.picture.specs.declared.EdgeMode.{EdgeMode}
use Rattle.passes.specs.Written.{line_byte}
use Rattle.resize.specs.Resize.{pass_of, inner_to}
use Rattle.resize.specs.Room.{Parts}
use Rattle.resize.proofs.inner_lines.Given as goal

abbrev pub invariant-loop-y : goal.invariant-loop-y
invariant-loop-y l = (mode : EdgeMode) → Parts l.initial.dst l.dst l.y (l.out * l.stride) l.stride (inner_to l.kind l.len * l.stride) (λ z r. line_byte (pass_of l.kind mode) l.src (z * (l.len * l.stride)) l.len l.stride r)
