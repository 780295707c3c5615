-- Each turn makes that output of one line more.
use Prim.Native.Nat.{◌+◌, ◌-◌, ◌*◌}
use Rattle.blend.specs.Tapped.{tapped}
use Rattle.resize.specs.Room.{Parts}
use Rattle.resize.proofs.blend_ends.Given as goal

abbrev pub invariant-loop-y : goal.invariant-loop-y
invariant-loop-y l = Parts l.initial.dst l.dst l.y (l.out * l.stride) l.at (l.at + l.stride) (λ z r. tapped l.src (z * (l.len * l.stride)) l.t (r - l.at))
