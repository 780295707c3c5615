-- Each turn makes one run more of the line.
use mathlib.Core.Path.{◌≡◌}
use Prim.Native.Nat.{◌*◌, ◌-◌, ◌≤◌}
use lib.ListN.{length}
use Rattle.picture.specs.Spans.{Run}
use Rattle.passes.specs.Written.{line_byte}
use Rattle.grid_sums.specs.Sums.{whole_convolve}
use Rattle.whole_lines.proofs.whole_line.Given as goal

abbrev pub invariant-loop-p : goal.invariant-loop-p
invariant-loop-p l = (l.p ≤ l.len * l.stride) × (length l.acc ≡ length l.initial.acc) × Run 0 l.initial.dst l.dst l.o l.p (line_byte (whole_convolve l.mode l.numerators) l.src l.start l.len l.stride)

abbrev pub decreases-loop-p : goal.decreases-loop-p
decreases-loop-p l = l.len * l.stride - l.p
