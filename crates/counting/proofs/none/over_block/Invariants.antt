-- The first j bytes are joined.
use mathlib.Core.Path.{◌≡◌}
use Rattle.counting.specs.Over.{over_first, joined}
use Rattle.counting.proofs.none.over_block.Given as goal

abbrev pub invariant-loop-j : goal.invariant-loop-j
invariant-loop-j l = l.all ≡ joined (over_first l.picture l.from) l.j
