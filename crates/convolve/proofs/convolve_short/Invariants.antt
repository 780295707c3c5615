-- Each turn makes one line more, as one block, in the part of dst that it is lent.
use mathlib.Core.Path.{◌≡◌}
use lib.ListN.{length}
use Rattle.passes.specs.Passes.{convolve}
use Rattle.passes.proofs.Written.{Lined}
use Rattle.convolve.proofs.convolve_short.Given as goal

abbrev pub invariant-loop-y : goal.invariant-loop-y
invariant-loop-y l = (length l.line ≡ 1280) × Lined (convolve l.mode l.weights) l.src l.len l.len l.stride l.initial.dst l.dst l.y
