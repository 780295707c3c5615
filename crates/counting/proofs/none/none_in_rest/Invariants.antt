-- None of the first i pixels fails.
use mathlib.Core.Path.{◌≡◌}
use Rattle.pixels.specs.Channels.{exceeds_at}
use Rattle.counting.specs.Counts.{how_many}
use Rattle.counting.proofs.none.none_in_rest.Given as goal

abbrev pub invariant-loop-i : goal.invariant-loop-i
invariant-loop-i l = how_many (exceeds_at l.picture) l.i ≡ 0
