-- Each turn makes one line more, and all of them are the pass.
use mathlib.Core.Path.{◌≡◌}
use lib.ListN.{length}
use Rattle.passes.proofs.Written.{Lined}
use Rattle.grid_sums.specs.Sums.{whole_convolve}
use Rattle.whole_lines.specs.Lines.{sum_lanes}
use Rattle.whole_lines.proofs.whole_lines.Given as goal

abbrev pub invariant-loop-y : goal.invariant-loop-y
invariant-loop-y l = (length l.acc ≡ sum_lanes) × Lined (whole_convolve l.mode l.numerators) l.src l.len l.len l.stride l.initial.dst l.dst l.y
