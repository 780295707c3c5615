-- The outputs so far are a part of the line; each turn joins the next one to it, or the next two.
use Prim.Native.Nat.{◌+◌, ◌*◌}
use Rattle.passes.specs.Passes.{halve, double}
use Rattle.blend.specs.Parts.{PassPartInside}
use Rattle.resize.proofs.resize_inner.Given as goal

abbrev pub invariant-loop-x : goal.invariant-loop-x
invariant-loop-x l = PassPartInside halve l.src l.initial.dst l.dst l.start l.stride l.len l.o 1 l.x

abbrev pub invariant-loop-y : goal.invariant-loop-y
invariant-loop-y l = PassPartInside double l.src l.initial.dst l.dst l.start l.stride l.len l.o 1 (2 * l.y + 1)
